-- `sheet::text_length` meets its contract.
use Rattle.sheet.proofs.text_length.Goals as goal

pub returns : goal.returns
returns c = rw c.section-nodes.ensures at c.write_figures.ensures.answer
