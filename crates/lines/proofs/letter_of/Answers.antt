-- `lines::letter_of` meets its contract, by the side.
use mathlib.Core.Path.{ap}
use Rattle.meaning.specs.Sheet.{letter}
use Rattle.lines.proofs.letter_of.Goals as goal

pub returns-in-Generation : goal.returns-in-Generation
unfolding letter
returns-in-Generation c = rw (ap letter c.in-Generation.is) c.line_of.ensures

pub returns-in-Demand : goal.returns-in-Demand
unfolding letter
returns-in-Demand c = rw (ap letter c.in-Demand.is) c.line_of-in-Demand.ensures
