use mathlib.Core.Path.{sym, ◌∙◌}
use native.Mathlib.Omega.{arith}
use native.Mathlib.Numerals.{add-one}
use Rattle.integers.proofs.Machine.{back}
use Rattle.meaning.proofs.Columns.{column_none, column_turn, column_done}
use Rattle.boundaries.proofs.Laws.{parts_filled}
use Rattle.boundaries.proofs.part.Zones.parts.Goals as goal

pub loop-i-init : goal.loop-i-init
loop-i-init c = sym (column_none _ 32 _)

pub loop-i-preserved : goal.loop-i-preserved
loop-i-preserved c =
    column_turn _ 32 _ c.loop-i.i (omega arith) c.loop-i.invariant (back _ c.shared_part.type_inv ∙ rw add-one at c.shared_part.ensures)

pub returns : goal.returns
returns c =
    let a = c.args in
    column_done _ 32 _ 32 c.loop-i.i c.loop-i.invariant (omega arith) (omega arith) ∙ parts_filled a.self.now.next.now a.self.now.count a.self.now.low.now a.self.now.carbon.now a.self.now.metres.now
