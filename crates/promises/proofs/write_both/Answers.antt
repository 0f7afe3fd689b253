-- `promises::write_both`: demand 3 of two calls follows from the entry's contract.
use Rattle.promises.proofs.Calls.{every_two_promised}
use Rattle.promises.proofs.write_both.Goals as goal

pub returns : goal.returns
returns c = every_two_promised _ _ c.write-first.ensures c.write-second.ensures
