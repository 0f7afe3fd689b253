use Rattle.layout.proofs.Rows.{counts_study}
use Rattle.layout.proofs.trailer.row_counts.Goals as goal

pub returns : goal.returns
returns c = counts_study _ _ _ _ c.count.ensures.0 c.count-2.ensures.0 c.count-3.ensures.0
