use mathlib.Core.Path.{sym, ◌∙◌}
use native.Mathlib.Omega.{arith}
use Rattle.integers.proofs.Machine.{back}
use Rattle.meaning.proofs.Columns.{column_none, column_turn, column_ended}
use Rattle.output.proofs.runs.run_at.Goals as goal

pub loop-i-init : goal.loop-i-init
loop-i-init c = sym (column_none _ _ _)

pub loop-i-preserved : goal.loop-i-preserved
loop-i-preserved c = column_turn _ _ _ c.loop-i.i (omega arith) c.loop-i.invariant (back _ c.i64_at.type_inv ∙ rw c.row_at.ensures at c.i64_at.ensures)

pub returns : goal.returns
returns c = column_ended _ _ _ c.args.rows.count c.loop-i.i (omega (arith, c.min-i-end.ensures)) c.loop-i.invariant c.loop-i.auto.i-end c.loop-i-test.false
