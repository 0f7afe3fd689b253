use mathlib.Core.Path.{sym, ◌∙◌}
use native.Mathlib.Omega.{arith}
use native.Mathlib.Numerals.{add-one}
use Rattle.meaning.proofs.Columns.{column_none, column_turn, column_done}
use Rattle.boundaries.proofs.Laws.{zones_few, parts_fit, splits_are}
use Rattle.boundaries.proofs.split_metres.Goals as goal

pub invariant_of-zones : goal.invariant_of-zones
invariant_of-zones c = record { few = rw c.zones_in.ensures (zones_few _ _) }

pub loop-i-init : goal.loop-i-init
loop-i-init c = sym (column_none _ 32 _)

pub one-requires : goal.one-requires
one-requires c = rw c.parts-parts.ensures (parts_fit _ _ _ _ _)

pub loop-i-preserved : goal.loop-i-preserved
loop-i-preserved c = column_turn _ 32 _ c.loop-i.i (omega arith) c.loop-i.invariant (rw add-one at c.one.ensures)

pub returns : goal.returns
returns c =
    let a = c.args in
    column_done _ 32 _ 32 c.loop-i.i c.loop-i.invariant (omega arith) (omega arith) ∙ splits_are a.shares a.zones a.metres c.zones_in.ensures c.parts-parts.ensures
