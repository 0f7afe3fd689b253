use Rattle.names.proofs.NameLaws.{same_cut}
use Rattle.names.proofs.same_name.Goals as goal

pub returns-else-inside : goal.returns-else-inside
returns-else-inside c = same_cut _ _ _ (c.inside.ensures.cut c.if-inside.false)
