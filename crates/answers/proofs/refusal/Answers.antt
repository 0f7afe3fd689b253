use mathlib.Core.Path.{refl}
use Rattle.meaning.specs.Answers.{refusal}
use Rattle.answers.proofs.refusal.Goals as goal

pub returns : goal.returns
unfolding refusal
returns c = refl
