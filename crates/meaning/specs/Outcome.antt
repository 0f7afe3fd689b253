-- 01, What stops a case ("Order") and What each entry settles: from the bytes of a file, its runs, a share file (02, request 6; no bytes for none) and a buffer to the answer.
use Rattle.std.specs.Prelude.{List, [], ◌∷◌, ◌++◌, ℕ, leb, length, drop}
use Rattle.meaning.specs.declared.System.{System}
use Rattle.meaning.specs.declared.Refusal.{Refusal}
use Rattle.meaning.specs.declared.Refusal.TheVariants.{BadFile, ShortBuffer}
use Rattle.meaning.specs.Answers.{Judgement}
use Rattle.std.specs.Prelude.{Ok, Err}
use Rattle.meaning.specs.Answers.{Answer}
use Rattle.meaning.specs.declared.Values.{Values}
use Rattle.meaning.specs.Answers.{values, ◌or_else◌, unless}
use Rattle.meaning.specs.Study.{Study, Runs}
use Rattle.meaning.specs.File.{file_whole, runs_whole, study_of, runs_in}
use Rattle.meaning.specs.Tables.{settings_stage, nodes_stage, circuits_stage, stations_stage}
use Rattle.meaning.specs.Grid.{Grid, grid_of, totals_stage, chargeable_stage}
use Rattle.meaning.specs.Network.{network_of, reach_stage}
use Rattle.meaning.specs.Generation.{scaling_stage}
use Rattle.meaning.specs.Systems.{proposals_stage}
use Rattle.meaning.specs.Figures.{share_stage}
use Rattle.meaning.specs.Text.{text, natural, line}
use Rattle.meaning.specs.Sheet.{sheet}

-- 1: of the file, and of the lengths of the runs
unfoldable pub file_stage : (file : List ℕ) → Judgement
file_stage file = unless (file_whole file) BadFile

unfoldable pub runs_stage : (file : List ℕ) → (long : System → ℕ) → Judgement
runs_stage file long = unless (runs_whole file long) BadFile

-- 2 to 5 of a study
unfoldable pub rows_stage : Study → Judgement
rows_stage S = settings_stage S or_else nodes_stage S or_else circuits_stage S or_else stations_stage S

-- 6 and 7 of a grid, then 13, then 14
unfoldable pub grid_stage : Grid → Judgement
grid_stage G = reach_stage (network_of G) or_else totals_stage G or_else chargeable_stage G or_else scaling_stage G

-- all that is asked before the proposals, of a file and the lengths of the runs: 1 to 7, then 13 and 14
unfoldable pub tables_stage : (file : List ℕ) → (long : System → ℕ) → Judgement
tables_stage file long =
    file_stage file or_else runs_stage file long or_else rows_stage (study_of file) or_else grid_stage (grid_of (study_of file))

-- "Order: 1 to 7; 8, 9, 10 for system 1 (base); 11; 8, 9, 10 for system 2 (wider), then 3 (local)"; 13 after 7, then 14, then 16
unfoldable pub judged : (file : List ℕ) → Runs → (share : List ℕ) → Judgement
judged file runs share =
    tables_stage file (λ s. length (runs s)) or_else share_stage (grid_of (study_of file)) share or_else proposals_stage (grid_of (study_of file)) runs

-- the sheet of a file, its runs and a share file
abbrev pub sheet_of : (file : List ℕ) → Runs → (share : List ℕ) → List ℕ
sheet_of file runs share = sheet (grid_of (study_of file)) runs share

-- what an entry answers with room enough for the sheet: "Acceptance carries the sheet's length"
unfoldable pub answered_by : Judgement → (sheet : List ℕ) → Answer
answered_by (Ok _) bytes = Ok (length bytes)
answered_by (Err r) bytes = Err r

unfoldable pub answer_of : (file : List ℕ) → Runs → (share : List ℕ) → Answer
answer_of file runs share = answered_by (judged file runs share) (sheet_of file runs share)

-- ---- what an entry answers, and the lent buffer afterwards
pub record Settled : Type 0 where
  pub answer : Answer
  pub buffer : List ℕ

-- a refusal "writes nothing"
unfoldable pub refused : Refusal → (buffer : List ℕ) → Settled
refused r buffer = record { answer = Err r; buffer = buffer }

-- "Acceptance carries the sheet's length; bytes behind it are untouched."
unfoldable pub written : (sheet buffer : List ℕ) → Settled
written sheet buffer = record { answer = Ok (length sheet); buffer = sheet ++ drop (length sheet) buffer }

-- 12: "sheet buffer shorter than the sheet"
unfoldable pub buffer_stage : (sheet buffer : List ℕ) → Judgement
buffer_stage sheet buffer = unless (leb (length sheet) (length buffer)) ShortBuffer

-- refused by what stops the case first, else the sheet
unfoldable pub settled_by : Judgement → (sheet buffer : List ℕ) → Settled
settled_by (Ok _) bytes buffer = written bytes buffer
settled_by (Err r) bytes buffer = refused r buffer

-- 1 to 11 and 13 to 16, then 12
unfoldable pub settle : (file : List ℕ) → Runs → (share buffer : List ℕ) → Settled
settle file runs share buffer =
    let sheet = sheet_of file runs share in
    settled_by (judged file runs share or_else buffer_stage sheet buffer) sheet buffer

-- ---- the program: "It prints the sheet, or `refused`, number, system and row."
unfoldable pub refused_fields : Values → List (List ℕ)
refused_fields v = text "refused" ∷ natural v.number ∷ natural v.system ∷ natural v.row ∷ []

unfoldable pub refused_line : Refusal → List ℕ
refused_line r = line (refused_fields (values (Err r)))

unfoldable pub printed_by : Judgement → (sheet : List ℕ) → List ℕ
printed_by (Ok _) bytes = bytes
printed_by (Err r) bytes = refused_line r

-- one case on standard input, and the bytes of `share.bin`; "it never prints 12"
unfoldable pub prints : (file share : List ℕ) → List ℕ
prints file share = printed_by (judged file (runs_in file) share) (sheet_of file (runs_in file) share)
