use mathlib.Core.Path.{refl}
use Rattle.meaning.specs.Rows.{◌between◌and◌}
use Rattle.tables.proofs.settings.between.Goals as goal

pub returns : goal.returns
unfolding ◌between◌and◌
returns c = refl
