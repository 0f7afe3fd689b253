use mathlib.Core.Path.{refl}
use Rattle.meaning.specs.Direction.{background}
use Rattle.numbers.proofs.background_of.Goals as goal

pub returns-in-For : goal.returns-in-For
unfolding background
returns-in-For c = rw c.in-For.is refl

pub returns-in-Doubtful : goal.returns-in-Doubtful
unfolding background
returns-in-Doubtful c = rw c.in-Doubtful.is refl
