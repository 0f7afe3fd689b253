-- The demands, said of calls of the entry `sheet::write`, whose contract is `Kept` (meaning/specs/Calls.antt).
use Rattle.std.specs.Prelude.{◌≡◌, ◌↔◌, ◌⊎◌, false, List, [], ◌++◌, ℕ, length, take, drop}
use Rattle.meaning.specs.declared.Refusal.{Refusal}
use Rattle.std.specs.Prelude.{Ok, Err}
use Rattle.meaning.specs.Answers.{values}
use Rattle.meaning.specs.File.{study_of}
use Rattle.meaning.specs.Grid.{grid_of}
use Rattle.meaning.specs.Outcome.{sheet_of, Settled, settle}
use Rattle.meaning.specs.Refusals.{Stopped}
use Rattle.meaning.specs.Demands.{ListedFor, Accepting, Recovered, SameButStations, Agree, PassesToFive}
use Rattle.meaning.specs.Mirror.{ShowsMirror}
use Rattle.meaning.specs.Sharing.{in_force}
use Rattle.meaning.specs.Shares.{ShowsParts}
use Rattle.meaning.specs.Versions.{SayTheSame}
use Rattle.meaning.specs.Distances.{DistancesWithin}
use Rattle.meaning.specs.OnlyDirections.{Asked, BothFirst, Holds}
use Rattle.meaning.specs.Calls.{Call, Kept}

-- accepted, with the sheet's length
abbrev pub IsAccepted : Call → Type 0
IsAccepted c = c.answer ≡ Ok (length (sheet_of c.file c.runs c.share))

-- the sheet that a caller of an accepted case finds: as many bytes as the answer says, at the buffer's front
abbrev pub sheet_in : Call → List ℕ
sheet_in c = take (values c.answer).length c.after

-- a refusal of 01's table, and the buffer as it was
pub record IsRefusal (c : Call) : Type 0 where
  pub cause : Refusal
  pub answered : c.answer ≡ Err cause
  pub listed : ListedFor (study_of c.file) cause
  pub untouched : c.after ≡ c.before

-- ---- demands 1 and 2, of one call
pub record Promised (c : Call) : Type 0 where
  -- "every entry refuses bad input itself": the one or the other
  pub settled : IsAccepted c ⊎ IsRefusal c
  -- "accepted exactly when"; then the buffer holds the sheet, and bytes behind it are untouched
  pub accepted : IsAccepted c ↔ Accepting c.file c.runs c.share c.before
  pub sheet : IsAccepted c → sheet_in c ≡ sheet_of c.file c.runs c.share
  pub behind : IsAccepted c → c.after ≡ sheet_in c ++ drop (values c.answer).length c.before
  -- "A refusal returns its number, system and row as the document lists them": exactly when 01's order stops the case there
  pub refused : (r : Refusal) → (c.answer ≡ Err r) ↔ Stopped c.file c.runs c.share c.before r
  -- the revenue, from the bytes that the caller got
  pub revenue : IsAccepted c → Recovered (grid_of (study_of c.file)) c.share (sheet_in c)
  -- 02, request 6: the metres of each zone, not shared and shared; and where no file is in force, all is as without one
  pub parts : IsAccepted c → ShowsParts (grid_of (study_of c.file)) c.runs c.share (sheet_in c)
  pub unshared : in_force (study_of c.file).settings.edition c.share ≡ false → ◌≡◌ {A = Settled} (record { answer = c.answer; buffer = c.after }) (settle c.file c.runs [] c.before)
  -- and generation held against demand, in the same bytes (02, request 2)
  pub mirror : IsAccepted c → ShowsMirror (grid_of (study_of c.file)) c.share (sheet_in c)

abbrev pub EveryCallPromised : Type 0
EveryCallPromised = (c : Call) → Kept c → Promised c

-- ---- demand 3, of two calls: other stations in another order, other solvers' runs, other buffers; 02, request 6: "demand 3 takes equal files"
pub record BothPromised (c d : Call) : Type 0 where
  pub agree : IsAccepted c → IsAccepted d → SameButStations (study_of c.file) (study_of d.file) → c.share ≡ d.share
      → Agree (study_of c.file) c.runs d.runs c.share (sheet_in c) (sheet_in d)
  -- and a refusal tells no more of the stations
  pub hidden : c.runs ≡ d.runs → c.share ≡ d.share → PassesToFive c.file c.runs → PassesToFive d.file d.runs
      → SameButStations (study_of c.file) (study_of d.file) → length c.before ≡ length d.before → c.answer ≡ d.answer
  -- 02, request 3: and files of two versions that say the same get one answer, and one sheet in one place
  pub either : SayTheSame c.file d.file → c.runs ≡ d.runs → c.share ≡ d.share → c.before ≡ d.before → (c.answer ≡ d.answer) × (c.after ≡ d.after)
  -- 02, request 12: and cases of edition 1, of one network and the same directions have the same distances, to within one metre, in the callers' bytes too
  pub directions : IsAccepted c → IsAccepted d → BothFirst (study_of c.file) (study_of d.file) → ((a : Asked) → Holds a (study_of c.file) (study_of d.file) c.runs d.runs)
      → DistancesWithin 1 (grid_of (study_of c.file)) (grid_of (study_of d.file)) c.runs d.runs c.share d.share (sheet_in c) (sheet_in d)

abbrev pub EveryTwoPromised : Type 0
EveryTwoPromised = (c d : Call) → Kept c → Kept d → BothPromised c d
