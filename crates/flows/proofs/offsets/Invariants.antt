use mathlib.Core.Path.{◌≡◌}
use lib.IntN.{pos}
use Rattle.meaning.specs.Columns.{column}
use Rattle.flows.specs.Flows.{offset_at}
use Rattle.flows.proofs.offsets.Given as goal

abbrev pub invariant-loop-c : goal.invariant-loop-c
invariant-loop-c l = l.offset ≡ column (pos 0) 512 l.c (offset_at l.system l.length l.mark l.headings)
