use mathlib.Core.Path.{sym, ap}
use mathlib.Core.Logic.{⊎_elim}
use Rattle.meaning.specs.Systems.{limit_of}
use Rattle.numbers.proofs.limit_of.Goals as goal

pub returns-in-Base : goal.returns-in-Base
unfolding limit_of
returns-in-Base c = ap limit_of (sym c.in-Base.is)

pub returns-in-Wider : goal.returns-in-Wider
unfolding limit_of
returns-in-Wider c = ⊎_elim (λ e. ap limit_of (sym e.1)) (λ e. ap limit_of (sym e)) c.in-Wider.is
