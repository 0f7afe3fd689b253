use mathlib.Core.Path.{◌≡◌}
use Prim.Native.Nat.{suc}
use Rattle.meaning.specs.Columns.{column}
use Rattle.boundaries.specs.Parts.{one_of}
use Rattle.boundaries.proofs.Laws.{no_split}
use Rattle.boundaries.proofs.split_metres.Given as goal

abbrev pub invariant-loop-i : goal.invariant-loop-i
invariant-loop-i l = l.all ≡ column no_split 32 l.i (λ j. one_of l.zones.next.now l.zones.count l.parts l.zones.metres.now (suc j))
