-- `promises::print`: the demands of what is printed follow from the contract of `output::print`, and from the length of the buffer that it takes.
use Rattle.promises.proofs.Program.{every_read_promised}
use borrow.Author.Rules.{rules}
use Rattle.promises.proofs.print.Goals as goal

pub returns : goal.returns
returns c = every_read_promised _ _ _ _ _ (search rules) (search rules) c.print.ensures
