use mathlib.Core.Path.{◌≡◌, ◌∙◌}
use lib.IntN.{nat_abs}
use Rattle.integers.proofs.Machine.{fit_back}
use Rattle.boundaries.proofs.Laws.{close_in, close_out}
use Rattle.boundaries.proofs.at.close.Goals as goal
use Rattle.boundaries.proofs.at.close.Goals.{After-magnitude}

tested : (c : After-magnitude) → c.magnitude.result ≡ nat_abs c.args.m
tested c = simp (fit_back c.ranges.m) at c.magnitude.ensures

pub returns-then-magnitude-le10000000 : goal.returns-then-magnitude-le10000000
returns-then-magnitude-le10000000 c = fit_back c.ranges.m ∙ close_in c.args.m (simp (tested c.before) at c.if-magnitude-le10000000.true)

pub returns : goal.returns
returns c = close_out c.args.m (simp (tested c.before) at c.if-magnitude-le10000000.false)
