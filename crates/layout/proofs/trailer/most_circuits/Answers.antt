use mathlib.Core.Path.{refl}
use borrow.Author.Tests.{ne_eqb}
use Rattle.meaning.specs.File.{most_circuits}
use Rattle.layout.proofs.trailer.most_circuits.Goals as goal

pub returns-in-First-eq2 : goal.returns-in-First-eq2
unfolding most_circuits
returns-in-First-eq2 c = rw (c.in-First-eq2.is-0, c.in-First-eq2.is-1) refl

pub returns-in-First-default : goal.returns-in-First-default
unfolding most_circuits
returns-in-First-default c = rw (c.in-First-default.is-0, ne_eqb _ _ c.in-First-default.is-1.1) refl

pub returns-in-Second-default : goal.returns-in-Second-default
unfolding most_circuits
returns-in-Second-default c = rw c.in-Second-default.is-0 refl
