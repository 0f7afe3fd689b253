-- `tariffs::over::metres_of` meets its contract.
use native.Mathlib.Omega.{arith}
use Rattle.integers.proofs.Machine.{back}
use Rattle.tariffs.specs.Sides.{metres_from}
use Rattle.tariffs.proofs.over.metres_of.Goals as goal

pub returns : goal.returns
unfolding metres_from
returns c = simp (back c.args.zone.weighed (omega arith)) at c.average.ensures
