use Rattle.boundaries.proofs.Laws.{up_in, up_out}
use Rattle.boundaries.proofs.at.up_to.Goals as goal

pub returns-then-x-le100000000 : goal.returns-then-x-le100000000
returns-then-x-le100000000 c = up_in _ c.if-x-le100000000.true

pub returns : goal.returns
returns c = up_out _ c.if-x-le100000000.false
