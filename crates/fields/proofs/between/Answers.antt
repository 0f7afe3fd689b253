use Rattle.meaning.specs.Rows.{◌between◌and◌}
use Rattle.fields.proofs.NumberLaws.{le_cmp}
use Rattle.fields.proofs.between.Goals as goal

pub returns : goal.returns
unfolding ◌between◌and◌
returns c = simp (c.new.ensures.start, c.new.ensures.end, c.new.ensures.exhausted, c.u32_at.ensures.value, le_cmp) at c.contains.ensures.value
