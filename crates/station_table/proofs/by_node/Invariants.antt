use mathlib.Core.Path.{◌≡◌}
use Rattle.meaning.specs.Columns.{kilowatts, column}
use Rattle.station_table.specs.Tec.{types_tec}
use Rattle.station_table.proofs.by_node.Given as goal

abbrev pub invariant-loop-v : goal.invariant-loop-v
invariant-loop-v l = l.sums ≡ column (kilowatts 0) 256 l.v (λ v. kilowatts (types_tec l.counted l.by_type 7 v))
