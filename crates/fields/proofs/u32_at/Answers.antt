use mathlib.Core.Path.{◌∙◌}
use native.Mathlib.Omega.{arith}
use Rattle.fields.proofs.NumberLaws.{u32_bytes}
use Rattle.fields.proofs.u32_at.Goals as goal

pub returns : goal.returns
returns c = record { value = c.from_le_bytes.ensures ∙ u32_bytes _ _ _ c.bytes_at.ensures; below = omega arith }
