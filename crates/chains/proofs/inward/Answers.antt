use mathlib.Core.Path.{sym, ◌∙◌}
use native.Mathlib.Omega.{arith}
use Rattle.meaning.proofs.Columns.{column_none, column_turn, column_ended}
use Rattle.chains.proofs.Laws.{inward_filled}
use Rattle.chains.proofs.inward.Goals as goal

pub loop-i-init : goal.loop-i-init
loop-i-init c = sym (column_none _ _ _)

pub loop-i-preserved : goal.loop-i-preserved
loop-i-preserved c = column_turn _ _ _ c.loop-i.i (omega arith) c.loop-i.invariant c.u32_at.ensures.value

pub returns : goal.returns
returns c =
    let a = c.args in
    column_ended _ _ _ a.zones c.loop-i.i (omega (arith, c.min-i-end.ensures)) c.loop-i.invariant c.loop-i.auto.i-end c.loop-i-test.false ∙ inward_filled a.share.now a.zones
