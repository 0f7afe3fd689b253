use mathlib.Core.Path.{sym, ◌∙◌}
use Rattle.meaning.proofs.Whole.{whole_file}
use Rattle.layout.proofs.Rows.{counts_whole, counts_none}
use native.Mathlib.Omega.{arith}
use Rattle.layout.proofs.counts.Goals as goal

pub row_counts-requires : goal.row_counts-requires
row_counts-requires c = omega (arith, (whole_file _ (sym c.whole.ensures ∙ c.if-whole.true)).long)

pub returns-then-whole : goal.returns-then-whole
returns-then-whole c = counts_whole _ c.row_counts.ensures (sym c.whole.ensures ∙ c.if-whole.true)

pub returns : goal.returns
returns c = counts_none _ (sym c.whole.ensures ∙ c.if-whole.false)
