-- `charges::paying_at_peak` meets its contract.
use mathlib.Core.Path.{refl, ◌∙◌}
use Rattle.charges.proofs.paying_at_peak.Goals as goal

pub returns-in-First : goal.returns-in-First
returns-in-First c = rw c.in-First.is refl

pub returns-in-Second : goal.returns-in-Second
returns-in-Second c = c.by_node.ensures ∙ rw c.in-Second.is refl
