use mathlib.Core.Path.{sym}
use native.Mathlib.Omega.{arith}
use Rattle.station_table.proofs.TecLaws.{cells_none, cells_more, cells_past, cells_fit}
use Rattle.station_table.proofs.tec.by_type.Goals as goal
use Rattle.station_table.proofs.tec.by_type.Goals.{in-Some, in_default}

pub loop-k-init : goal.loop-k-init
loop-k-init c = cells_none _ _ _ _

pub overflow_add-sums : goal.overflow_add-sums
overflow_add-sums c =
    omega (arith, cells_fit _ _ _ _ c.loop-k.k c.in-Some.cell c.loop-k.invariant c.requires.2 (omega arith) c.in-Some.ensures.1)

pub loop-k-preserved : goal.loop-k-preserved
loop-k-preserved c =
    elim c.match-cell_of.branch [
      | in-Some w ↦ rw w.sums-is (cells_more _ _ _ _ c.loop-k.k _ c.loop-k.invariant w.in-Some.ensures.0 w.in-Some.ensures.1)
      | in_default w ↦ rw w.sums-is (cells_past _ _ _ _ c.loop-k.k 1792 c.loop-k.invariant (sym w.in_default.ensures) (omega arith))
    ]
