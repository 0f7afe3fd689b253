-- `steps::no_figures` meets its contract.
use Rattle.steps.specs.Nothing.{no_figures}
use Rattle.steps.proofs.no_figures.Goals as goal

pub returns : goal.returns
unfolding no_figures
returns c = rw (c.no_side-side.ensures, c.no_local.ensures)
