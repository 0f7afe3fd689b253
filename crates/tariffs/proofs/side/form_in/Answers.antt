use mathlib.Core.Path.{refl}
use Rattle.tariffs.specs.Sides.{form_in}
use Rattle.tariffs.proofs.side.form_in.Goals as goal

pub returns-then-in_force : goal.returns-then-in_force
unfolding form_in
returns-then-in_force c = rw c.if-in_force.true refl

pub returns-in-First : goal.returns-in-First
unfolding form_in
returns-in-First c = rw (c.if-in_force.false, c.in-First.is) refl

pub returns-in-Second : goal.returns-in-Second
unfolding form_in
returns-in-Second c = rw (c.if-in_force.false, c.in-Second.is) refl
