use mathlib.Core.Path.{sym, ◌∙◌, refl}
use Rattle.meaning.specs.Answers.{unless}
use Rattle.tables.proofs.chain.chargeable_stage.Goals as goal

pub returns-then-chargeable : goal.returns-then-chargeable
unfolding unless
returns-then-chargeable c = rw (← c.total.ensures, sym c.chargeable.ensures ∙ c.if-chargeable.true) refl

pub returns : goal.returns
unfolding unless
returns c = rw (← c.total.ensures, sym c.chargeable.ensures ∙ c.if-chargeable.false) refl
