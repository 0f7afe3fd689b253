use mathlib.Core.Path.{refl}
use Rattle.meaning.specs.Rows.{◌between◌and◌}
use Rattle.tariffs.specs.Case.{totals_fit}
use Rattle.tariffs.proofs.case.totals_fit.Goals as goal

pub returns : goal.returns
unfolding totals_fit ◌between◌and◌
returns c = refl
