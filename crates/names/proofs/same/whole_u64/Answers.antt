use mathlib.Core.Path.{◌∙◌}
use Rattle.fields.proofs.NumberLaws.{u64_bytes}
use Rattle.names.proofs.same.whole_u64.Goals as goal

pub returns : goal.returns
returns c = c.from_le_bytes.ensures ∙ u64_bytes _ _ _ c.bytes_in.ensures
