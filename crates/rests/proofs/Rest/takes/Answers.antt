use native.Mathlib.Omega.{arith}
use Rattle.integers.proofs.Machine.{fit_back, back}
use Rattle.rests.specs.Rests.{in_range}
use Rattle.rests.proofs.Rest.takes.Goals as goal

pub returns : goal.returns
unfolding in_range
returns c =
    let a = simp (back c.args.self.each (omega arith)) at c.magnitude.ensures in
    let b = simp (fit_back c.ranges.tariff) at c.magnitude-2.ensures in
    rw (a, b)
