use mathlib.Core.Path.{◌≡◌}
use Prim.Native.Nat.{◌*◌}
use Rattle.meaning.specs.File.{u32}
use Rattle.meaning.specs.Columns.{column}
use Rattle.chains.proofs.inward.Given as goal

abbrev pub invariant-loop-i : goal.invariant-loop-i
invariant-loop-i l = l.all ≡ column 0 32 l.i (λ j. u32 l.share (4 * j))
