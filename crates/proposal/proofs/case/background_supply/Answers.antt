use mathlib.Core.Path.{refl, ◌∙◌}
use Rattle.proposal.specs.Case.{background_supply}
use Rattle.proposal.proofs.case.background_supply.Goals as goal

pub returns : goal.returns
unfolding background_supply
returns c = c.base_supply.ensures ∙ rw (c.by_node-fixed.ensures, c.by_node-variable.ensures) refl
