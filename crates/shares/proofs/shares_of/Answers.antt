-- `shares::shares_of` meets its contract: what a file in force says, else nothing.
use Rattle.shares.proofs.Laws.{forced_shares, unforced_shares}
use Rattle.shares.proofs.shares_of.Goals as goal

pub returns-then-in_force : goal.returns-then-in_force
returns-then-in_force c =
    let a = c.args in
    forced_shares a.edition a.zones a.nodes a.zone a.by_type a.share.now c.in_force.ensures c.if-in_force.true c.load_factors-factors.ensures c.inward-next.ensures
    c.by_node.ensures c.by_zone-low.ensures c.by_node-then-in_force.ensures c.by_zone-carbon.ensures c.shared_kw.ensures

pub returns : goal.returns
returns c =
    let a = c.args in
    unforced_shares a.edition a.zones a.nodes a.zone a.by_type a.share.now c.in_force.ensures c.if-in_force.false c.none.ensures
