use Rattle.meaning.specs.Sharing.{sound_frame}
use Rattle.chains.proofs.frame.sound.Goals as goal

pub returns : goal.returns
unfolding sound_frame
returns c = rw c.low.ensures
