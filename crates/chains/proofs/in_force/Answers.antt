use Rattle.chains.proofs.Laws.{not_in_first, in_second}
use Rattle.chains.proofs.in_force.Goals as goal

pub returns-in-First : goal.returns-in-First
returns-in-First c = not_in_first c.args.share.now c.in-First.is

pub returns-in-Second : goal.returns-in-Second
returns-in-Second c = rw c.is_empty.ensures (in_second c.args.share.now c.in-Second.is)
