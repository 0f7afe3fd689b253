use mathlib.Core.Path.{refl, ◌∙◌}
use native.Mathlib.Omega.{arith}
use Rattle.meaning.proofs.Columns.{column_begun, column_turn, column_ended}
use Rattle.names.proofs.places.Goals as goal

pub loop-i-init : goal.loop-i-init
loop-i-init c = column_begun _ _ _ refl

pub loop-i-preserved : goal.loop-i-preserved
loop-i-preserved c = column_turn _ _ _ c.loop-i.i (omega arith) c.loop-i.invariant (c.unwrap_or.ensures ∙ rw c.field_at.ensures at c.place-place.ensures)

pub returns : goal.returns
returns c = column_ended _ _ _ c.args.rows.count c.loop-i.i (omega (arith, c.min-i-end.ensures)) c.loop-i.invariant c.loop-i.auto.i-end c.loop-i-test.false
