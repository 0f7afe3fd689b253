use Rattle.boundaries.proofs.Laws.{zones_all_lem, zones_none}
use Rattle.boundaries.proofs.sums.zones_in.Goals as goal

pub returns-then-in_force : goal.returns-then-in_force
returns-then-in_force c = zones_all_lem _ c.args.zones c.if-in_force.true _ c.min.ensures

pub returns : goal.returns
returns c = zones_none _ c.args.zones c.if-in_force.false
