use native.Mathlib.Omega.{arith}
use Rattle.plants.proofs.PlantLaws.{types_at}
use Rattle.zone_kw.proofs.ZoneLaws.{zone_low}
use Rattle.zone_kw.proofs.LoadLaws.{loaded_none, loaded_fit, loaded_more}
use Rattle.zone_kw.proofs.load.thousandths.Goals as goal

pub loop-t-init : goal.loop-t-init
loop-t-init c = let a = c.args in loaded_none a.nodes a.zone.now a.by_type.now a.factors.now

pub with_type-sums-requires : goal.with_type-sums-requires
with_type-sums-requires c =
    let a = c.args in
    record {
      added = loaded_fit a.nodes a.zone.now a.by_type.now a.factors.now c.loop-t.t c.loop-t.invariant (omega arith);
      more = rw c.by_zone-kw.ensures (zone_low a.zone.now c.by_node.result a.nodes);
    }

pub loop-t-preserved : goal.loop-t-preserved
loop-t-preserved c =
    let a = c.args in
    loaded_more a.nodes a.zone.now a.by_type.now a.factors.now c.loop-t.t c.loop-t.invariant (types_at c.loop-t.t _ (omega arith)) c.by_node.ensures c.by_zone-kw.ensures c.with_type-sums.ensures
