use mathlib.Core.Path.{◌≡◌}
use Rattle.meaning.specs.Columns.{column}
use Rattle.meaning.specs.File.{row_at, circuit_at}
use Rattle.circuit_table.specs.Lengths.{length_if_in_range}
use Rattle.circuit_table.proofs.lengths.by_circuit.Given as goal

abbrev pub invariant-loop-row : goal.invariant-loop-row
invariant-loop-row l = l.all ≡ column 0 512 l.row (λ i. length_if_in_range l.settings (circuit_at l.file l.rows.size (row_at l.rows i)))
