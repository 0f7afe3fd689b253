-- `steps::metres` meets its contract.
use mathlib.Core.Path.{◌∙◌}
use Rattle.integers.proofs.Machine.{fit_back, back}
use Rattle.meaning.specs.Charging.{metres}
use Rattle.steps.proofs.metres.Goals as goal

pub returns : goal.returns
unfolding metres
returns c = back _ c.nearest.type_inv ∙ simp (fit_back c.ranges.potential) at c.nearest.ensures
