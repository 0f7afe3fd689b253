use mathlib.Core.Path.{refl}
use Rattle.meaning.specs.Tables.{sound_scales}
use Rattle.tables.proofs.settings.sound_scales.Goals as goal

pub returns : goal.returns
unfolding sound_scales
returns c =
    rw (c.between-5.ensures, c.between-4.ensures, c.between-3.ensures, c.between-2.ensures, c.between.ensures) refl
