use Rattle.std.proofs.Common.{refl, ◌∙◌}
use Rattle.meaning.specs.Answers.{in_second}
use Rattle.tables.proofs.chain.scaling.Goals as goal

pub returns-in-First : goal.returns-in-First
unfolding in_second
returns-in-First c = rw c.in-First.is refl

pub returns-in-Second : goal.returns-in-Second
unfolding in_second
returns-in-Second c = c.or_else.ensures ∙ rw (← c.background_stage-year_round.ensures, ← c.background_stage-peak.ensures, c.in-Second.is) refl
