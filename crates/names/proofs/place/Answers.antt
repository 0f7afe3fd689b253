use mathlib.Core.Path.{sym, ◌∙◌}
use native.Mathlib.Omega.{arith}
use Rattle.names.proofs.RowLaws.{search_stops, search_ends}
use Rattle.names.proofs.place.Goals as goal

pub returns-then-row_is : goal.returns-then-row_is
returns-then-row_is c =
    let told = rw c.row_at-in-loop-row.ensures at c.row_is.ensures in
    search_stops _ _ c.loop-row.invariant (omega arith) (sym told ∙ c.if-row_is.true)

pub returns : goal.returns
returns c = search_ends _ _ c.loop-row.invariant (omega arith) (omega arith)
