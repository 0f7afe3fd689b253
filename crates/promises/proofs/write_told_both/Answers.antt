-- `promises::write_told_both`: demand 3 of two calls follows from the exported entry's contract.
use Rattle.promises.proofs.Exported.{every_two_told}
use Rattle.promises.proofs.write_told_both.Goals as goal

pub returns : goal.returns
returns c = every_two_told _ _ c.wirepulley_write-first.ensures c.wirepulley_write-second.ensures
