use native.Mathlib.Omega.{arith}
use Rattle.plants.proofs.PlantLaws.{types_at}
use Rattle.station_table.proofs.TecLaws.{types_none, types_more, types_low}
use Rattle.station_table.proofs.tec.of_node.Goals as goal

pub loop-t-init : goal.loop-t-init
loop-t-init c = types_none _ _ _

pub overflow_add-sum : goal.overflow_add-sum
overflow_add-sum c =
    let a = c.args in
    omega (arith, c.loop-t.invariant, c.part-sum.ensures.low, types_low a.counted a.by_type.now a.node c.loop-t.t)

pub loop-t-preserved : goal.loop-t-preserved
loop-t-preserved c =
    let a = c.args in
    types_more a.counted a.by_type.now a.node c.loop-t.t c.loop-t.invariant (types_at c.loop-t.t _ (omega arith)) c.part-sum.ensures.value (omega arith)
