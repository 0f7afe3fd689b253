use Rattle.std.proofs.Common.{refl, ◌∙◌}
use Rattle.meaning.specs.Answers.{◌or_else◌}
use Rattle.meaning.proofs.Answers.{refuses, or_else_stops, or_else_passes}
use Rattle.answers.proofs.or_else.Goals as goal

pub returns-in_err-first : goal.returns-in_err-first
unfolding ◌or_else◌
returns-in_err-first c = refuses c.from_residual.ensures ∙ rw c.in_err-first.was refl

pub returns : goal.returns
unfolding ◌or_else◌
returns c = rw c.in_ok-first.was refl
