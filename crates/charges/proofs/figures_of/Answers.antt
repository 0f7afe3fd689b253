-- `charges::figures_of` meets its contract.
use Rattle.std.proofs.Common.{◌∙◌, refl}
use Rattle.charges.proofs.figures_of.Goals as goal

pub returns : goal.returns
returns c = c.figures.ensures ∙ rw (c.by_node-tec.ensures, c.by_node-paying.ensures, c.paying_at_peak-at_peak.ensures, c.shares_in-shares.ensures) refl
