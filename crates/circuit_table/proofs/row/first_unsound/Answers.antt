use mathlib.Core.Path.{sym, ap, ◌∙◌}
use mathlib.Core.Bool.{not}
use native.Mathlib.Omega.{arith}
use Rattle.meaning.proofs.Rows.{passed_zero, passed_more}
use Rattle.meaning.proofs.First.{first_stops, first_ends}
use Rattle.circuit_table.proofs.CircuitLaws.{few, ends_at}
use Rattle.circuit_table.proofs.row.first_unsound.Goals as goal

pub loop-row-init : goal.loop-row-init
loop-row-init c = passed_zero _

pub bounds-columns-row : goal.bounds-columns-row
bounds-columns-row c = omega (arith, few _ c.requires)

pub bounds-columns-row-in-loop-row : goal.bounds-columns-row-in-loop-row
bounds-columns-row-in-loop-row c = omega (arith, few _ c.requires)

pub sound_row-requires : goal.sound_row-requires
sound_row-requires c = ends_at _ c.requires c.loop-row.row (omega arith)

pub loop-row-preserved : goal.loop-row-preserved
loop-row-preserved c = passed_more c.loop-row.invariant (ap not (sym c.sound_row.ensures ∙ c.if-not-sound_row.false))

pub returns-then-not-sound_row : goal.returns-then-not-sound_row
returns-then-not-sound_row c = (omega arith, first_stops c.loop-row.invariant (omega arith) (ap not (sym c.sound_row.ensures ∙ c.if-not-sound_row.true)))

pub returns : goal.returns
returns c = first_ends c.loop-row.invariant (omega arith)
