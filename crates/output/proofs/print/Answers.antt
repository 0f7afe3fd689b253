-- `output::print` meets its contract: of the case and of the share file, what was read is a front part of the buffer, or all of it.
use Rattle.output.proofs.Printing.{printed_of}
use Rattle.output.proofs.print.Goals as goal

pub returns : goal.returns
returns c =
    printed_of _ _ _ _ c.front.ensures c.front-2.ensures c.of_input.ensures
