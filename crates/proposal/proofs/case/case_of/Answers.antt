use mathlib.Core.Path.{refl}
use Rattle.proposal.specs.Case.{case_of}
use Rattle.proposal.proofs.case.case_of.Goals as goal

pub returns : goal.returns
unfolding case_of
returns c = rw (c.background_supply-supply.ensures, c.peak_supply-peak_supply.ensures) refl
