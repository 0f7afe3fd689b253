use mathlib.Core.Path.{◌∙◌}
use Rattle.fields.proofs.NumberLaws.{u32_bytes}
use Rattle.names.proofs.same.whole_u32.Goals as goal

pub returns : goal.returns
returns c = c.from_le_bytes.ensures ∙ u32_bytes _ _ _ c.bytes_in.ensures
