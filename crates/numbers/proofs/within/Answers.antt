use mathlib.Core.Path.{◌∙◌}
use lib.IntN.{pos, ◌-ℤ◌}
use Rattle.integers.proofs.Machine.{Back, fit_back}
use Rattle.numbers.proofs.Limit.{minus_fits, no_limit, below_limit, above_decides}
use Rattle.numbers.proofs.within.Goals as goal

pub returns-in_default : goal.returns-in_default
returns-in_default c = no_limit c.args.z c.args.limit c.ranges.z c.in_default.ensures

pub returns-then-most-z : goal.returns-then-most-z
returns-then-most-z c =
    let (fits, most) = c.in-Ok.ensures in
    let back : Back c.args.z × Back (pos c.args.limit) × Back (pos 0 -ℤ pos c.args.limit) = (fit_back c.ranges.z, fit_back fits, fit_back (minus_fits _ fits)) in
    simp (most, back.0, back.1, back.2) (above_decides c.args.z c.args.limit (simp (most, back.0, back.1, back.2) at c.if-most-z.true))

pub returns-else-most-z : goal.returns-else-most-z
returns-else-most-z c =
    let (fits, most) = c.in-Ok.ensures in
    let back : Back c.args.z × Back (pos c.args.limit) × Back (pos 0 -ℤ pos c.args.limit) = (fit_back c.ranges.z, fit_back fits, fit_back (minus_fits _ fits)) in
    let below = simp (most, back.0, back.1, back.2) at c.if-most-z.false in
    simp (most, back.0, back.1, back.2) (below ∙ below_limit c.args.z c.args.limit below)
