use mathlib.Core.Path.{sym, ◌∙◌}
use native.Mathlib.Omega.{arith}
use Rattle.meaning.proofs.Rows.{passed_more}
use Rattle.names.proofs.RowLaws.{search_stops, search_ends, seen, unseen}
use Rattle.names.proofs.repeated.Goals as goal
use Rattle.names.proofs.repeated.Goals.{then-loop-row-test+then-loop-early-test+then-row_is, else-loop-row-test}

pub loop-row-preserved : goal.loop-row-preserved
loop-row-preserved c = passed_more c.loop-row.invariant (unseen _ _ _ c.loop-early.invariant (omega arith) (omega arith))

pub returns : goal.returns
returns c = elim c.loop-row-test.branch [
  | then-loop-row-test+then-loop-early-test+then-row_is w ↦
      let told = rw w.row_at-later.ensures at (rw w.row_at.ensures at w.row_is.ensures) in
      w.found-is ∙ search_stops _ _ c.loop-row.invariant (omega arith) (seen _ _ w.loop-early.early (omega arith) (sym told ∙ w.if-row_is.true))
  | else-loop-row-test w ↦ w.found-is ∙ search_ends _ _ c.loop-row.invariant (omega arith) (omega arith)
]
