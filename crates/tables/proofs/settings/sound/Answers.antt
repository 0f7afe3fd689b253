use mathlib.Core.Path.{refl}
use Rattle.meaning.specs.Tables.{sound_settings}
use Rattle.tables.proofs.settings.sound.Goals as goal

pub returns : goal.returns
unfolding sound_settings
returns c =
    rw (c.between-6.ensures, c.between-5.ensures, c.between-4.ensures, c.between-3.ensures, c.between-2.ensures, c.between.ensures, c.sound_scales.ensures) refl
