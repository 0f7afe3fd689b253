use mathlib.Core.Path.{sym, ◌∙◌}
use Rattle.integers.proofs.Machine.{Back, fit_back}
use Rattle.flows.proofs.Net.{carried_all, carried_none}
use Rattle.flows.proofs.reading.carried.Goals as goal

pub returns-then-within : goal.returns-then-within
returns-then-within c =
    let bf : Back c.args.flow = fit_back c.ranges.flow in
    simp bf (carried_all _ (sym (simp bf at c.within.ensures) ∙ c.if-within.true))

pub returns : goal.returns
returns c =
    let bf : Back c.args.flow = fit_back c.ranges.flow in
    carried_none _ (sym (simp bf at c.within.ensures) ∙ c.if-within.false)
