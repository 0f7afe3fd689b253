use mathlib.Core.Path.{◌∙◌, ap}
use Rattle.std.proofs.Common.{rules}
use Rattle.integers.proofs.Machine.{fit_back}
use Rattle.meaning.specs.Direction.{in_doubt}
use Rattle.numbers.proofs.Doubt.{not_in_doubt}
use Rattle.numbers.proofs.doubtful.Goals as goal

pub returns-in-InDoubt : goal.returns-in-InDoubt
unfolding in_doubt
returns-in-InDoubt c = search rules

pub returns-in_default : goal.returns-in_default
returns-in_default c =
    let directed = simp (fit_back c.ranges.flow) at c.direction_of.ensures in
    not_in_doubt _ c.in_default.not-InDoubt ∙ ap in_doubt directed
