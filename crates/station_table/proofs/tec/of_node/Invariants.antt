use mathlib.Core.Path.{◌≡◌}
use Rattle.station_table.specs.Tec.{types_tec}
use Rattle.station_table.proofs.tec.of_node.Given as goal

abbrev pub invariant-loop-t : goal.invariant-loop-t
invariant-loop-t l = l.sum ≡ types_tec l.counted l.by_type l.t l.node
