use Rattle.meaning.specs.Sharing.{is_centre}
use Rattle.chains.proofs.zone.Zones.is_centre.Goals as goal

pub returns : goal.returns
unfolding is_centre
returns c = rw (c.kw.ensures, c.step.ensures)
