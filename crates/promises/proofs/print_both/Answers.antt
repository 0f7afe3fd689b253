-- `promises::print_both`: demand 3 of two texts follows from the contract of `output::print`.
use Rattle.promises.proofs.Program.{every_two_printed}
use Rattle.promises.proofs.print_both.Goals as goal

pub returns : goal.returns
returns c = every_two_printed _ _ _ _ _ _ c.print-first.ensures c.print-second.ensures
