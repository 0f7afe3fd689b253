use mathlib.Core.Path.{◌≡◌}
use Prim.Native.Nat.{◌≤◌}
use Rattle.integers.specs.Numbers.{sum}
use Rattle.meaning.specs.Columns.{kw_at}
use Rattle.totals.proofs.total.Given as goal

abbrev pub invariant-loop-kw : goal.invariant-loop-kw
invariant-loop-kw l = (l.total ≤ 100000000) × (l.total ≡ sum l.kw-index (kw_at l.fn.column))
