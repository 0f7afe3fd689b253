use mathlib.Core.Path.{◌≡◌}
use Prim.Native.Nat.{◌+◌}
use Rattle.integers.specs.Numbers.{sum}
use Rattle.meaning.specs.Scaled.{whole_share}
use Rattle.meaning.specs.Columns.{kw_at}
use Rattle.supply.proofs.scaled.missing_kw.Given as goal

abbrev pub invariant-loop-v : goal.invariant-loop-v
invariant-loop-v l = l.missing + sum l.v (whole_share l.n (kw_at l.tec) l.demand.0) ≡ l.demand.0
