-- `steps::average` meets its contract.
use mathlib.Core.Path.{◌∙◌}
use Rattle.integers.proofs.Machine.{fit_back, back}
use Rattle.steps.proofs.average.Goals as goal

pub returns : goal.returns
returns c = back _ c.nearest.type_inv ∙ simp (fit_back c.ranges.sum) at c.nearest.ensures
