use mathlib.Core.Path.{◌∙◌}
use Rattle.integers.proofs.Machine.{fit_back}
use Rattle.numbers.proofs.Counts.{first_counts, unmarked_counts, marked_counts}
use Rattle.numbers.proofs.counts_for.Goals as goal

pub returns-in-Second : goal.returns-in-Second
returns-in-Second c =
    simp (fit_back c.ranges.year_round, fit_back c.ranges.peak) at c.by_flows.ensures ∙ unmarked_counts _ _ _ _ c.in-Second.is c.if-mark-eq0.true

pub returns-in_default : goal.returns-in_default
returns-in_default c = marked_counts _ _ _ _ c.in-Second.is c.if-mark-eq0.false

pub returns-in_default-2 : goal.returns-in_default-2
returns-in_default-2 c = first_counts _ _ _ _ c.in_default.is
