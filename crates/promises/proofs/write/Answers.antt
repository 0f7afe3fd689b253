-- `promises::write`: the demands of a call of the entry follow from its contract.
use Rattle.promises.proofs.Calls.{every_call_promised}
use Rattle.promises.proofs.write.Goals as goal

pub returns : goal.returns
returns c = every_call_promised _ c.write.ensures
