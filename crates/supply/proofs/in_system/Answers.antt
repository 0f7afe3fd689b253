use mathlib.Core.Path.{refl}
use Rattle.std.proofs.Common.{rules}
use Rattle.supply.specs.Supply.{supply_in}
use Rattle.supply.proofs.in_system.Goals as goal

pub returns-in-Base-YearRound : goal.returns-in-Base-YearRound
unfolding supply_in
returns-in-Base-YearRound c = search rules

pub returns-in-Base-Peak : goal.returns-in-Base-Peak
unfolding supply_in
returns-in-Base-Peak c = search rules

pub returns-in-Wider : goal.returns-in-Wider
unfolding supply_in
returns-in-Wider c = rw c.in-Wider.is refl

pub returns-in-Local : goal.returns-in-Local
unfolding supply_in
returns-in-Local c = rw c.in-Local.is refl
