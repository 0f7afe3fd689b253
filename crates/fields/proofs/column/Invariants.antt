use Rattle.std.proofs.Common.{◌≡◌, ◌+◌}
use Rattle.meaning.specs.Columns.{column}
use Rattle.meaning.specs.File.{u32, row_at}
use Rattle.fields.proofs.column.Given as goal

abbrev pub invariant-loop-i : goal.invariant-loop-i
invariant-loop-i g l = l.all ≡ column (g.T.FromField.of_number 0) g.row.N l.i (λ j. g.T.FromField.of_number (u32 l.file (row_at l.rows j + l.field)))
