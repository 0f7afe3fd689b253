use Rattle.lines.specs.Making.{zeros}
use Rattle.lines.proofs.Making.{put_none}
use Rattle.lines.proofs.words.empty.Goals as goal

pub returns : goal.returns
unfolding zeros
returns c = put_none _ _
