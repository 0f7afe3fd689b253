use mathlib.Core.Path.{◌∙◌}
use Rattle.proposal.proofs.CaseOf.{no_peak, some_peak}
use Rattle.proposal.proofs.case.peak_supply.Goals as goal

pub returns-in-First : goal.returns-in-First
returns-in-First c = no_peak _ _ _ c.in-First.is

pub returns-in-Second : goal.returns-in-Second
returns-in-Second c = c.background_supply.ensures ∙ some_peak _ _ _ c.in-Second.is
