use mathlib.Core.Path.{◌∙◌}
use Rattle.integers.proofs.Machine.{back}
use Rattle.meaning.specs.File.{i64}
use Rattle.fields.proofs.NumberLaws.{signed}
use Rattle.fields.proofs.i64_at.Goals as goal

pub returns : goal.returns
unfolding i64
returns c = back _ c.cast_signed.type_inv ∙ rw c.u64_at.ensures at c.cast_signed.ensures ∙ signed _
