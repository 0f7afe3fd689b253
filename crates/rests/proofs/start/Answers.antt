use mathlib.Core.Path.{◌≡◌, sym, ◌∙◌}
use lib.IntN.{nat_abs}
use Rattle.integers.proofs.Machine.{fit_back}
use Rattle.rests.proofs.Laws.{says_divides, start_in, start_out}
use Rattle.rests.proofs.start.Goals as goal
use Rattle.rests.proofs.start.Goals.{After-magnitude}

-- the test, as it is said
tested : (c : After-magnitude) → c.magnitude.result ≡ nat_abs c.args.target
tested c = simp (fit_back c.ranges.target) at c.magnitude.ensures

pub of-requires : goal.of-requires
of-requires c =
    simp (fit_back c.ranges.target) (says_divides c.args.target c.args.payers.0 (simp (tested c.before) at c.if-k-magnitude.true))

pub returns-then-k-magnitude : goal.returns-then-k-magnitude
returns-then-k-magnitude c =
    simp (fit_back c.ranges.target) at c.of.ensures
    ∙ sym (start_in c.args.target c.args.payers.0 (simp (tested c.before.before) at c.if-k-magnitude.true))

pub returns : goal.returns
returns c =
    sym (start_out c.args.target c.args.payers.0 (simp (tested c.before) at c.if-k-magnitude.false))
