use Rattle.meaning.specs.Name.{same_name}
use Rattle.meaning.specs.File.{name_at}
use Rattle.meaning.proofs.Rows.{Passed}
use Rattle.names.specs.Search.{name_row}
use Rattle.names.proofs.place.Given as goal

abbrev pub invariant-loop-row : goal.invariant-loop-row
invariant-loop-row l = Passed (λ v. same_name (name_row l.file l.rows v) (name_at l.file l.at)) l.row
