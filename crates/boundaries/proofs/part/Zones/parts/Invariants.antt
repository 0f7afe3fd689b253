use mathlib.Core.Path.{◌≡◌}
use Prim.Native.Nat.{suc}
use lib.IntN.{pos}
use Rattle.meaning.specs.Columns.{column}
use Rattle.meaning.specs.Sharing.{shared_part}
use Rattle.chains.specs.Columns.{next_in}
use Rattle.boundaries.specs.Boundaries.{kept, near}
use Rattle.boundaries.proofs.part.Zones.parts.Given as goal

abbrev pub invariant-loop-i : goal.invariant-loop-i
invariant-loop-i l = l.all ≡ column (pos 0) 32 l.i (λ j. shared_part l.self.count (next_in l.self.next.now) (kept l.self.low.now) (kept l.self.carbon.now) (near l.self.metres.now) (suc j))
