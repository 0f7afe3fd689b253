use native.Mathlib.Omega.{arith}
use mathlib.Core.Path.{sym}
use Rattle.meaning.proofs.Columns.{column_none, column_turn, column_ended}
use Rattle.circuit_table.proofs.lengths.by_circuit.Goals as goal

pub loop-row-init : goal.loop-row-init
loop-row-init c = sym (column_none _ _ _)

pub loop-row-preserved : goal.loop-row-preserved
loop-row-preserved c = column_turn _ _ _ c.loop-row.row (omega arith) c.loop-row.invariant c.length_at.ensures

pub returns : goal.returns
returns c = column_ended _ _ _ c.args.rows.count c.loop-row.row (omega (arith, c.min-row-end.ensures)) c.loop-row.invariant c.loop-row.auto.row-end c.loop-row-test.false
