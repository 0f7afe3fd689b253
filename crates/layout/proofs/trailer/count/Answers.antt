use mathlib.Core.Path.{◌∙◌, ap}
use Prim.Native.Nat.{◌+◌}
use Rattle.meaning.specs.File.{u32, section_count}
use Rattle.layout.proofs.trailer.count.Goals as goal

pub returns : goal.returns
unfolding section_count
returns c = (c.u32_at.ensures.value ∙ ap (λ n. u32 c.args.file.now (n + 4)) c.entry.ensures.0, c.u32_at.ensures.below)
