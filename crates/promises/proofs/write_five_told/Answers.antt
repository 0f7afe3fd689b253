-- `promises::write_five_told`: the demands of a call of the exported entry follow from its contract.
use Rattle.promises.proofs.Exported.{every_told_promised}
use Rattle.promises.proofs.write_five_told.Goals as goal

pub returns : goal.returns
returns c = every_told_promised _ c.wirepulley_write_five.ensures
