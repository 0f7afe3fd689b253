use native.Mathlib.Omega.{arith}
use Rattle.meaning.proofs.Columns.{column_begun, column_turn, column_ended}
use Rattle.fields.proofs.column.Goals as goal

pub loop-i-init : goal.loop-i-init
loop-i-init g c = column_begun _ _ _ c.from_field-all.ensures

pub loop-i-preserved : goal.loop-i-preserved
loop-i-preserved g c =
    let read = rw c.field_at.ensures at c.u32_at.ensures.value in
    column_turn _ _ _ c.loop-i.i (omega arith) c.loop-i.invariant (rw read at c.from_field.ensures)

pub returns : goal.returns
returns g c = column_ended _ _ _ c.args.rows.count c.loop-i.i c.min-i-end.ensures c.loop-i.invariant c.loop-i.auto.i-end c.loop-i-test.false
