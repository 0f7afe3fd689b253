use mathlib.Core.Path.{◌≡◌}
use Rattle.integers.specs.Numbers.{sum}
use Rattle.meaning.specs.Scaled.{left_over}
use Rattle.meaning.specs.Columns.{kilowatts, kw_at, column}
use Rattle.supply.specs.Supply.{scaled_by}
use Rattle.supply.proofs.scaled.scaled.Given as goal

abbrev pub invariant-loop-v : goal.invariant-loop-v
invariant-loop-v l = (l.before ≡ sum l.v (left_over l.n (kw_at l.tec) l.demand.0)) × (l.scaled ≡ column (kilowatts 0) 256 l.v (λ i. kilowatts (scaled_by l.n l.tec l.demand i)))
