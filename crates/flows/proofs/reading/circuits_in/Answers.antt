use Rattle.flows.proofs.Circuits.{counted_least}
use Rattle.flows.proofs.reading.circuits_in.Goals as goal

pub returns : goal.returns
returns c = counted_least _ _ (rw c.saturating_sub.ensures at c.min.ensures)
