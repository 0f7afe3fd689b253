use mathlib.Core.Path.{sym, ap, ◌∙◌}
use Rattle.meaning.specs.Answers.{values}
use Rattle.answers.proofs.values.Goals as goal

pub returns-in-Ok : goal.returns-in-Ok
unfolding values
returns-in-Ok c = sym (ap values c.in-Ok.is)

pub returns-in-Err : goal.returns-in-Err
returns-in-Err c = c.of_refusal.ensures ∙ sym (ap values c.in-Err.is)
