use Rattle.meaning.specs.Sharing.{names_one_with_tec, names_with_tec, is_centre, second_centre, ended, sound_zone}
use Rattle.chains.proofs.zone.Zones.is_sound.Goals as goal

pub returns : goal.returns
unfolding sound_zone names_one_with_tec names_with_tec is_centre second_centre ended
returns c =
    rw (c.ends.ensures, c.has_centre_below-earlier.ensures, c.is_centre-first.ensures, c.kw-there.ensures, c.kw-own.ensures, c.step-inner.ensures)
