-- The demands, said of the entries that judge without a buffer: `sheet::judge`, whose answer is `answer_of`, and the exported `wirepulley_judge`, which tells it.
use Rattle.std.specs.Prelude.{◌≡◌, ◌↔◌, ◌≢◌, false, List, [], ℕ, ◌≤◌, length}
use Rattle.meaning.specs.declared.Refusal.{Refusal}
use Rattle.meaning.specs.Answers.{Answer}
use Rattle.std.specs.Prelude.{Ok, Err}
use Rattle.meaning.specs.Answers.{values}
use Rattle.meaning.specs.Study.{Runs}
use Rattle.meaning.specs.File.{study_of}
use Rattle.meaning.specs.Outcome.{sheet_of, answer_of, settle}
use Rattle.meaning.specs.Conditions.{Acceptable}
use Rattle.meaning.specs.Refusals.{FirstUnmet, case_order}
use Rattle.meaning.specs.Demands.{ListedFor, SameButStations, PassesToFive}
use Rattle.meaning.specs.Sharing.{in_force}
use Rattle.meaning.specs.Versions.{SayTheSame}
use Rattle.meaning.specs.Calls.{Tells}

-- a refusal of 01's table, never 12
pub record RefusalJudged (file : List ℕ) (answer : Answer) : Type 0 where
  pub cause : Refusal
  pub answered : answer ≡ Err cause
  pub listed : ListedFor (study_of file) cause
  pub number : (values (Err cause)).number ≢ 12

-- ---- demands 1 and 2, of a case and the answer that is given
pub record JudgePromised (file : List ℕ) (runs : Runs) (share : List ℕ) (answer : Answer) : Type 0 where
  -- accepted with the sheet's length exactly when the case is acceptable; a refusal exactly when 01's order stops the case there; one of the two
  pub accepted : (answer ≡ Ok (length (sheet_of file runs share))) ↔ Acceptable file runs share
  pub refused : (r : Refusal) → (answer ≡ Err r) ↔ FirstUnmet (case_order file runs share) r
  pub otherwise : (Acceptable file runs share → ⊥) → RefusalJudged file answer
  -- the entry that writes says the same with room enough
  pub with_room : (buffer : List ℕ) → length (sheet_of file runs share) ≤ length buffer → (settle file runs share buffer).answer ≡ answer
  -- 02, request 6: where no file is in force, the answer is that without one
  pub unshared : in_force (study_of file).settings.edition share ≡ false → answer ≡ answer_of file runs []

abbrev pub EveryJudgePromised : Type 0
EveryJudgePromised = (file : List ℕ) (runs : Runs) (share : List ℕ) → JudgePromised file runs share (answer_of file runs share)

-- told in four numbers, and a result
pub record ToldJudgePromised (file : List ℕ) (runs : Runs) (share : List ℕ) (numbers : List ℕ) (result : ℕ) : Type 0 where
  pub answer : Answer
  pub promised : JudgePromised file runs share answer
  pub told : Tells answer numbers result

-- ---- demand 3: and an answer tells no more of the stations
abbrev pub JudgesHideStations : Type 0
JudgesHideStations =
    (file file' : List ℕ) (runs : Runs) (share : List ℕ) → PassesToFive file runs → PassesToFive file' runs → SameButStations (study_of file) (study_of file')
    → answer_of file runs share ≡ answer_of file' runs share

-- ---- 02, request 3: files of two versions that say the same get one answer
abbrev pub JudgesInEitherVersion : Type 0
JudgesInEitherVersion = (file file' : List ℕ) (runs : Runs) (share : List ℕ) → SayTheSame file file' → answer_of file runs share ≡ answer_of file' runs share
