-- `output::runs::run_at` meets its contract.
use Rattle.std.proofs.Common.{◌≡◌, pos}
use Rattle.meaning.specs.File.{i64, row_at}
use Rattle.meaning.specs.Columns.{column}
use Rattle.output.proofs.runs.run_at.Given as goal

abbrev pub invariant-loop-i : goal.invariant-loop-i
invariant-loop-i l = l.all ≡ column (pos 0) 768 l.i (λ j. i64 l.file (row_at l.rows j))
