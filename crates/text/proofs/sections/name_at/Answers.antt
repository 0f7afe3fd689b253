use Rattle.text.proofs.Names.{name_read}
use Rattle.text.proofs.sections.name_at.Goals as goal

pub returns : goal.returns
returns c = name_read _ _ _ _ c.row_at.ensures
