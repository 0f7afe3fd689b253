use mathlib.Core.Path.{sym, ◌∙◌, refl}
use Rattle.meaning.specs.Answers.{unless}
use Rattle.tables.proofs.chain.totals_stage.Goals as goal

pub returns-then-sound : goal.returns-then-sound
unfolding unless
returns-then-sound c = rw (← c.total-2.ensures, ← c.total.ensures, sym c.sound.ensures ∙ c.if-sound.true) refl

pub returns : goal.returns
unfolding unless
returns c = rw (← c.total-2.ensures, ← c.total.ensures, sym c.sound.ensures ∙ c.if-sound.false) refl
