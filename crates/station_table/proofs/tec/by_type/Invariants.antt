use mathlib.Core.Path.{◌≡◌}
use Rattle.station_table.proofs.TecLaws.{cells}
use Rattle.station_table.proofs.tec.by_type.Given as goal

abbrev pub invariant-loop-k : goal.invariant-loop-k
invariant-loop-k l = l.sums ≡ cells l.nodes l.stations.node l.stations.plant l.stations.tec l.k
