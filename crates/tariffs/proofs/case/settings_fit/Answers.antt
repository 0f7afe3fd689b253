use mathlib.Core.Path.{refl}
use Rattle.tariffs.specs.Case.{settings_fit}
use Rattle.tariffs.proofs.case.settings_fit.Goals as goal

pub returns : goal.returns
unfolding settings_fit
returns c = refl
