use native.Mathlib.Omega.{arith}
use Rattle.std.proofs.lemmas.Grind.{common_steps}
use Rattle.supply.specs.Supply.{runnable}
use Rattle.supply.proofs.runnable.Goals as goal

pub returns-then-fixed-demand : goal.returns-then-fixed-demand
unfolding runnable
returns-then-fixed-demand c = grind (arith, common_steps)

pub returns-else-fixed-demand : goal.returns-else-fixed-demand
unfolding runnable
returns-else-fixed-demand c = grind (arith, common_steps)
