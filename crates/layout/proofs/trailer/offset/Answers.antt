use mathlib.Core.Path.{◌∙◌, ap}
use Rattle.meaning.specs.File.{u32, section_offset}
use Rattle.layout.proofs.trailer.offset.Goals as goal

pub returns : goal.returns
unfolding section_offset
returns c = (c.u32_at.ensures.value ∙ ap (u32 c.args.file.now) c.entry.ensures.0, c.u32_at.ensures.below)
