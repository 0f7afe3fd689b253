-- `shares::stage` meets its contract: 16 where the file is in force.
use Rattle.shares.proofs.Laws.{forced_stage, unforced_stage}
use Rattle.shares.proofs.stage.Goals as goal

pub returns-then-in_force : goal.returns-then-in_force
returns-then-in_force c =
    let a = c.args in
    forced_stage a.edition a.zones a.nodes a.zone a.by_type a.share.now c.in_force.ensures c.if-in_force.true c.by_node.ensures c.by_zone-tec.ensures c.stage.ensures

pub returns : goal.returns
returns c =
    let a = c.args in
    unforced_stage a.edition a.zones a.nodes a.zone a.by_type a.share.now c.in_force.ensures c.if-in_force.false
