use mathlib.Core.Path.{◌≡◌}
use Rattle.meaning.specs.Columns.{column}
use Rattle.numbers.specs.Numbers.{no_heading}
use Rattle.flows.specs.Flows.{heading_at}
use Rattle.flows.proofs.headings.Given as goal

abbrev pub invariant-loop-c : goal.invariant-loop-c
invariant-loop-c l = l.all ≡ column no_heading 512 l.c (heading_at l.edition l.n l.mark l.base l.peak_base)
