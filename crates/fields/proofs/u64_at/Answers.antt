use mathlib.Core.Path.{◌∙◌}
use Rattle.fields.proofs.NumberLaws.{u64_bytes}
use Rattle.fields.proofs.u64_at.Goals as goal

pub returns : goal.returns
returns c = c.from_le_bytes.ensures ∙ u64_bytes _ _ _ c.bytes_at.ensures
