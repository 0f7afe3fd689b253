-- Searches among the names that begin a section's rows.
use Rattle.std.specs.Prelude.{List, ℕ}
use Rattle.std.proofs.Math.Option.{get_or}
use Rattle.meaning.specs.declared.Section.{Section}
use Rattle.meaning.specs.Rows.{lowest}
use Rattle.meaning.specs.Name.{Name, same_name}
use Rattle.meaning.specs.File.{name_at, row_at}
use Rattle.meaning.specs.Tables.{seen_earlier}

-- the name that begins row i
abbrev pub name_row : List ℕ → Section → (i : ℕ) → Name
name_row file rows i = name_at file (row_at rows i)

-- 01, What stops a case, 3 and 5: the lowest row whose name is "seen earlier"; the count of rows where there is none
abbrev pub first_repeated : List ℕ → Section → ℕ
first_repeated file rows = get_or (lowest (seen_earlier (name_row file rows)) rows.count) rows.count

-- the lowest row that has the name at a place; the count of rows where there is none
abbrev pub first_named : List ℕ → Section → (at : ℕ) → ℕ
first_named file rows at = get_or (lowest (λ v. same_name (name_row file rows v) (name_at file at)) rows.count) rows.count
