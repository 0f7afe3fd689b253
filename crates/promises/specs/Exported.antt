-- The demands, said of calls of the exported `wirepulley_write`, whose contract is `ToldKept` (meaning/specs/Calls.antt): answers are numbers.
use Rattle.std.specs.Prelude.{◌≡◌, ◌↔◌, ◌≢◌, false, List, [], ◌++◌, ℕ, length, take, drop}
use Rattle.meaning.specs.declared.Refusal.{Refusal}
use Rattle.std.specs.Prelude.{Ok, Err}
use Rattle.meaning.specs.Answers.{values}
use Rattle.meaning.specs.File.{study_of}
use Rattle.meaning.specs.Grid.{grid_of}
use Rattle.meaning.specs.Outcome.{sheet_of, settle}
use Rattle.meaning.specs.Refusals.{Stopped}
use Rattle.meaning.specs.Demands.{ListedFor, Accepting, Recovered, SameButStations, Agree, PassesToFive}
use Rattle.meaning.specs.Mirror.{ShowsMirror}
use Rattle.meaning.specs.Sharing.{in_force}
use Rattle.meaning.specs.Shares.{ShowsParts}
use Rattle.meaning.specs.Versions.{SayTheSame}
use Rattle.meaning.specs.Distances.{DistancesWithin}
use Rattle.meaning.specs.OnlyDirections.{Asked, BothFirst, Holds}
use Rattle.meaning.specs.Calls.{four, Tells, ToldCall, ToldKept}

-- the sheet that a caller finds at the buffer's front: its length is the fourth number
abbrev pub sheet_at : ToldCall → (length : ℕ) → List ℕ
sheet_at c n = take n c.after

-- a refusal of 01's table: its number, and the sheet's buffer as it was
pub record RefusalTold (c : ToldCall) : Type 0 where
  pub cause : Refusal
  pub stopped : Stopped c.file c.runs c.share c.before cause
  pub listed : ListedFor (study_of c.file) cause
  pub number : c.result ≡ (values (Err cause)).number
  pub untouched : c.after ≡ c.before

-- ---- demands 1 and 2, of one call
pub record ToldPromised (c : ToldCall) : Type 0 where
  -- the result is 0 exactly when; then the buffer holds the sheet, and bytes behind it are untouched. Else it is a refusal's number
  pub accepted : (c.result ≡ 0) ↔ Accepting c.file c.runs c.share c.before
  pub sheet : c.result ≡ 0 → sheet_at c (length (sheet_of c.file c.runs c.share)) ≡ sheet_of c.file c.runs c.share
  pub behind : c.result ≡ 0 → c.after ≡ sheet_of c.file c.runs c.share ++ drop (length (sheet_of c.file c.runs c.share)) c.before
  pub otherwise : c.result ≢ 0 → RefusalTold c
  -- the four numbers are accepted's with the sheet's length, or this refusal's, exactly when
  pub length_told : (c.numbers ≡ four (values (Ok (length (sheet_of c.file c.runs c.share))))) ↔ Accepting c.file c.runs c.share c.before
  pub refusal_told : (r : Refusal) → (c.numbers ≡ four (values (Err r))) ↔ Stopped c.file c.runs c.share c.before r
  -- the revenue, from the bytes that the caller got
  pub revenue : c.result ≡ 0 → Recovered (grid_of (study_of c.file)) c.share (sheet_at c (length (sheet_of c.file c.runs c.share)))
  -- and generation held against demand, in the same bytes (02, request 2)
  pub mirror : c.result ≡ 0 → ShowsMirror (grid_of (study_of c.file)) c.share (sheet_at c (length (sheet_of c.file c.runs c.share)))
  -- 02, request 6: the metres of each zone, not shared and shared; and where no file is in force, all is as without one
  pub parts : c.result ≡ 0 → ShowsParts (grid_of (study_of c.file)) c.runs c.share (sheet_at c (length (sheet_of c.file c.runs c.share)))
  pub unshared : in_force (study_of c.file).settings.edition c.share ≡ false
      → Tells (settle c.file c.runs [] c.before).answer c.numbers c.result × (c.after ≡ (settle c.file c.runs [] c.before).buffer)

abbrev pub EveryToldPromised : Type 0
EveryToldPromised = (c : ToldCall) → ToldKept c → ToldPromised c

-- ---- demand 3, of two calls
pub record BothTold (c d : ToldCall) : Type 0 where
  pub agree : c.result ≡ 0 → d.result ≡ 0 → SameButStations (study_of c.file) (study_of d.file) → c.share ≡ d.share
      → Agree (study_of c.file) c.runs d.runs c.share (sheet_at c (length (sheet_of c.file c.runs c.share))) (sheet_at d (length (sheet_of d.file d.runs d.share)))
  -- and a refusal tells no more of the stations
  pub hidden : c.runs ≡ d.runs → c.share ≡ d.share → PassesToFive c.file c.runs → PassesToFive d.file d.runs
      → SameButStations (study_of c.file) (study_of d.file) → length c.before ≡ length d.before
      → (c.result ≡ d.result) × (c.numbers ≡ d.numbers)
  -- 02, request 3: and files of two versions that say the same get one result, and one sheet in one place
  pub either : SayTheSame c.file d.file → c.runs ≡ d.runs → c.share ≡ d.share → c.before ≡ d.before
      → (c.result ≡ d.result) × (c.numbers ≡ d.numbers) × (c.after ≡ d.after)
  -- 02, request 12: and cases of edition 1, of one network and the same directions have the same distances, to within one metre, in the callers' bytes too
  pub directions : c.result ≡ 0 → d.result ≡ 0 → BothFirst (study_of c.file) (study_of d.file) → ((a : Asked) → Holds a (study_of c.file) (study_of d.file) c.runs d.runs)
      → DistancesWithin 1 (grid_of (study_of c.file)) (grid_of (study_of d.file)) c.runs d.runs c.share d.share (sheet_at c (length (sheet_of c.file c.runs c.share))) (sheet_at d (length (sheet_of d.file d.runs d.share)))

abbrev pub EveryTwoTold : Type 0
EveryTwoTold = (c d : ToldCall) → ToldKept c → ToldKept d → BothTold c d
