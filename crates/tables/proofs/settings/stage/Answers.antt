use mathlib.Core.Path.{refl, sym, ◌∙◌}
use Rattle.meaning.specs.Answers.{unless}
use Rattle.tables.proofs.settings.stage.Goals as goal

pub returns-then-sound : goal.returns-then-sound
unfolding unless
returns-then-sound c = rw (sym c.sound.ensures ∙ c.if-sound.true) refl

pub returns : goal.returns
unfolding unless
returns c = rw (sym c.sound.ensures ∙ c.if-sound.false) refl
