-- `steps::no_side` meets its contract.
use Rattle.steps.specs.Nothing.{no_side}
use Rattle.steps.proofs.no_side.Goals as goal

pub returns : goal.returns
unfolding no_side
returns c = rw c.no_line.ensures
