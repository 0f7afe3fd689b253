use Rattle.meaning.specs.File.{version_of}
use Rattle.layout.proofs.trailer.version.Goals as goal

pub returns : goal.returns
unfolding version_of
returns c = c.u32_at.ensures.value
