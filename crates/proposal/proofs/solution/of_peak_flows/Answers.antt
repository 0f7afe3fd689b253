use mathlib.Core.Path.{◌∙◌}
use Rattle.proposal.proofs.Told.{first_alone, second_too}
use Rattle.proposal.proofs.solution.of_peak_flows.Goals as goal

pub of_flows-requires : goal.of_flows-requires
of_flows-requires c = c.requires c.in-Second.is

pub returns-in-First : goal.returns-in-First
returns-in-First c = first_alone _ _ c.in-First.is

pub returns-in-Second : goal.returns-in-Second
returns-in-Second c = c.of_flows.ensures ∙ second_too _ _ c.in-Second.is
