use mathlib.Core.Path.{refl}
use Rattle.tariffs.specs.Sides.{shared_zones}
use Rattle.tariffs.proofs.shared.shared_zones.Goals as goal

pub returns-then-in_force-clause-zones : goal.returns-then-in_force-clause-zones
unfolding shared_zones
returns-then-in_force-clause-zones c = rw c.if-in_force.true refl

pub returns-clause-zones : goal.returns-clause-zones
unfolding shared_zones
returns-clause-zones c = rw c.if-in_force.false refl
