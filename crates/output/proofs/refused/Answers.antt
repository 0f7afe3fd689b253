-- `output::refused` meets its contract.
use Rattle.output.proofs.Printing.{printed_refusal}
use Rattle.output.proofs.refused.Goals as goal

pub returns : goal.returns
returns c = printed_refusal c.args.cause _ _ c.refuse-length.ensures
