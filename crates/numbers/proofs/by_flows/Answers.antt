use mathlib.Core.Path.{◌≡◌}
use native.Mathlib.Omega.{arith}
use lib.IntN.{nat_abs}
use Rattle.integers.proofs.Machine.{Back, fit_back}
use Rattle.numbers.proofs.Counts.{for_peak, between, for_year_round}
use Rattle.numbers.proofs.by_flows.Goals as goal
use Rattle.numbers.proofs.by_flows.Goals.{After-unsigned_abs-here, Start}

-- the two magnitudes, as they were answered
module _ (c : After-unsigned_abs-here) where
  abbrev s : Start
  s = c.before.before

  by : Back s.args.year_round
  by = fit_back s.ranges.year_round

  bp : Back s.args.peak
  bp = fit_back s.ranges.peak

  there : c.unsigned_abs-there.result ≡ nat_abs s.args.year_round
  there = simp by at c.unsigned_abs-there.ensures.value

  here : c.unsigned_abs-here.result ≡ nat_abs s.args.peak
  here = simp bp at c.unsigned_abs-here.ensures.value

pub returns-then-there-here : goal.returns-then-there-here
returns-then-there-here c = let b = c.before in for_peak _ _ (omega (arith, there b, here b))

pub returns-then-there-here-2 : goal.returns-then-there-here-2
returns-then-there-here-2 c = let b = c.before.before in between _ _ (omega (arith, there b, here b)) (omega (arith, there b, here b))

pub returns : goal.returns
returns c = let b = c.before.before in for_year_round _ _ (omega (arith, there b, here b)) (omega (arith, there b, here b))
