use Rattle.meaning.specs.Name.{same_name}
use Rattle.meaning.specs.Tables.{seen_earlier}
use Rattle.meaning.proofs.Rows.{Passed}
use Rattle.names.specs.Search.{name_row}
use Rattle.names.proofs.repeated.Given as goal

abbrev pub invariant-loop-early : goal.invariant-loop-early
invariant-loop-early l = Passed (λ j. same_name (name_row l.file l.rows j) (name_row l.file l.rows l.row)) l.early

abbrev pub invariant-loop-row : goal.invariant-loop-row
invariant-loop-row l = Passed (seen_earlier (λ j. name_row l.file l.rows j)) l.row
