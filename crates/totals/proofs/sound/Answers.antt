use mathlib.Core.Path.{refl}
use Rattle.meaning.specs.Grid.{sound_totals}
use Rattle.meaning.specs.Rows.{◌between◌and◌}
use Rattle.totals.proofs.sound.Goals as goal

pub returns : goal.returns
unfolding sound_totals ◌between◌and◌
returns c = refl
