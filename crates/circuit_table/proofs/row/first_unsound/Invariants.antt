use Rattle.meaning.proofs.Rows.{Passed}
use Rattle.circuit_table.specs.Told.{unsound_circuit}
use Rattle.circuit_table.proofs.row.first_unsound.Given as goal

abbrev pub invariant-loop-row : goal.invariant-loop-row
invariant-loop-row l = Passed (unsound_circuit l.file l.rows) l.row
