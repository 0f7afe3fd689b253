-- The demands, said of the program: what it prints of the bytes that it read of a case and of a share file, in its buffer of 17,408. The runs are the file's own.
use Rattle.std.specs.Prelude.{◌≡◌, ◌↔◌, ◌≢◌, false, List, [], ℕ, length, take}
use Rattle.meaning.specs.declared.Refusal.{Refusal}
use Rattle.std.specs.Prelude.{Err}
use Rattle.meaning.specs.declared.Printed.{Printed}
use Rattle.meaning.specs.Answers.{values}
use Rattle.meaning.specs.File.{study_of, runs_in}
use Rattle.meaning.specs.Grid.{grid_of}
use Rattle.meaning.specs.Outcome.{sheet_of, refused_line, prints}
use Rattle.meaning.specs.Conditions.{Acceptable}
use Rattle.meaning.specs.Refusals.{FirstUnmet, case_order}
use Rattle.meaning.specs.Demands.{ListedFor, Recovered, SameButStations, Agree, PassesToFive}
use Rattle.meaning.specs.Mirror.{ShowsMirror}
use Rattle.meaning.specs.Sharing.{in_force}
use Rattle.meaning.specs.Shares.{ShowsParts}
use Rattle.meaning.specs.Versions.{SayTheSame}
use Rattle.meaning.specs.Distances.{DistancesWithin}
use Rattle.meaning.specs.OnlyDirections.{Asked, BothFirst, Holds}
use Rattle.meaning.specs.Calls.{Prints}

-- the bytes that the program writes
abbrev pub shown : Printed → List ℕ
shown r = take r.length r.bytes

-- the line of a listed refusal, never 12
pub record RefusalPrinted (file share text : List ℕ) : Type 0 where
  pub cause : Refusal
  pub stopped : FirstUnmet (case_order file (runs_in file) share) cause
  pub listed : ListedFor (study_of file) cause
  pub number : (values (Err cause)).number ≢ 12
  pub line : text ≡ refused_line cause

-- ---- demands 1 and 2, of a file, a share file (02, request 6; no bytes for none) and the text printed for them
pub record PrintPromised (file share text : List ℕ) : Type 0 where
  -- the sheet exactly when the case is acceptable; a refusal's line exactly when 01's order stops the case there; one of the two
  pub sheet : (text ≡ sheet_of file (runs_in file) share) ↔ Acceptable file (runs_in file) share
  pub refused : (r : Refusal) → (text ≡ refused_line r) ↔ FirstUnmet (case_order file (runs_in file) share) r
  pub otherwise : (Acceptable file (runs_in file) share → ⊥) → RefusalPrinted file share text
  -- the revenue, from the bytes that were printed
  pub revenue : Acceptable file (runs_in file) share → Recovered (grid_of (study_of file)) share text
  -- and generation held against demand, in the same bytes (02, request 2)
  pub mirror : Acceptable file (runs_in file) share → ShowsMirror (grid_of (study_of file)) share text
  -- 02, request 6: the metres of each zone, not shared and shared; and where no file is in force, the text is that without one
  pub parts : Acceptable file (runs_in file) share → ShowsParts (grid_of (study_of file)) (runs_in file) share text
  pub unshared : in_force (study_of file).settings.edition share ≡ false → text ≡ prints file []

abbrev pub EveryPrintPromised : Type 0
EveryPrintPromised = (file share : List ℕ) (r : Printed) → Prints (prints file share) r → PrintPromised file share (shown r)

-- ---- demand 3, of two files: other stations in another order, other solvers' runs; 02, request 6: "demand 3 takes equal files"
pub record BothPrinted (file file' share share' text text' : List ℕ) : Type 0 where
  pub agree : Acceptable file (runs_in file) share → Acceptable file' (runs_in file') share' → SameButStations (study_of file) (study_of file') → share ≡ share'
      → Agree (study_of file) (runs_in file) (runs_in file') share text text'
  -- and a refusal tells no more of the stations
  pub hidden : runs_in file ≡ runs_in file' → share ≡ share' → PassesToFive file (runs_in file) → PassesToFive file' (runs_in file')
      → SameButStations (study_of file) (study_of file') → text ≡ text'
  -- 02, request 3: and files of two versions that say the same, solutions too, print alike
  pub either : SayTheSame file file' → runs_in file ≡ runs_in file' → share ≡ share' → text ≡ text'
  -- 02, request 12: and cases of edition 1, of one network and the same directions have the same distances, to within one metre, in the printed bytes too
  pub directions : Acceptable file (runs_in file) share → Acceptable file' (runs_in file') share' → BothFirst (study_of file) (study_of file') → ((a : Asked) → Holds a (study_of file) (study_of file') (runs_in file) (runs_in file'))
      → DistancesWithin 1 (grid_of (study_of file)) (grid_of (study_of file')) (runs_in file) (runs_in file') share share' text text'

abbrev pub EveryTwoPrinted : Type 0
EveryTwoPrinted = (file file' share share' : List ℕ) (r r' : Printed) → Prints (prints file share) r → Prints (prints file' share') r' → BothPrinted file file' share share' (shown r) (shown r')

-- ---- what was read: the front of the buffer is the input, or as much of it as the buffer holds
pub record Filled (input buffer : List ℕ) (count : ℕ) : Type 0 where
  pub front : take count buffer ≡ take (length buffer) input

-- the promises of the bytes that were read, and of the whole input and the whole share file, whatever of them the buffers could not hold
pub record ReadPromised (buffer : List ℕ) (count : ℕ) (share : List ℕ) (share_count : ℕ) (text : List ℕ) : Type 0 where
  pub read : PrintPromised (take count buffer) (take share_count share) text
  pub whole : (input file : List ℕ) → Filled input buffer count → Filled file share share_count → PrintPromised input file text

-- 65,536 bytes and 256 are enough for that
abbrev pub EveryReadPromised : Type 0
EveryReadPromised =
    (buffer : List ℕ) (count : ℕ) (share : List ℕ) (share_count : ℕ) (r : Printed) → length buffer ≡ 65536 → length share ≡ 256
    → Prints (prints (take count buffer) (take share_count share)) r → ReadPromised buffer count share share_count (shown r)
