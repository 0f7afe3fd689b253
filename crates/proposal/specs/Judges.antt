-- What opening a case with its runs gives: the columns, or the first refusal among 1 to 11 and 13 to 16.
use Rattle.std.specs.Prelude.{◌≡◌, List, ℕ, Result, IfOk}
use Rattle.meaning.specs.declared.Refusal.{Refusal}
use Rattle.meaning.specs.Answers.{yields}
use Rattle.meaning.specs.Study.{Runs}
use Rattle.meaning.specs.Outcome.{judged}
use Rattle.layout.specs.Readable.{readable}
use Rattle.station_table.specs.Tec.{Possible}
use Rattle.tables.specs.declared.Opened.{Opened}
use Rattle.tables.specs.Opens.{opened_of}

pub record Judges (file : List ℕ) (runs : Runs) (share : List ℕ) (r : Result Opened Refusal) : Type 0 where
  pub judged : r ≡ yields (judged file runs share) (opened_of (readable file))
  pub possible : IfOk r (λ o. Possible o.by_type)
