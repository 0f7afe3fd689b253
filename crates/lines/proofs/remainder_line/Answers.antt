use Rattle.integers.proofs.Machine.{fit_back}
use Rattle.meaning.specs.Text.{line}
use Rattle.meaning.specs.Sheet.{remainder_fields}
use Rattle.lines.proofs.Numbers.{ends_spaced}
use Rattle.lines.proofs.remainder_line.Goals as goal

pub returns : goal.returns
unfolding remainder_fields line
returns c = rw ends_spaced (rw (fit_back c.ranges.generation, fit_back c.ranges.demand) at c.numbered.ensures)
