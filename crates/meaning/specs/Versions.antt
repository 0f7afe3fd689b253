-- 02, request 3: what is promised of files of two versions and of circuits with a factor of their own, as statements over the definitions.
use Rattle.std.specs.Prelude.{◌≡◌, ◌≢◌, List, ℕ, suc, ◌+◌, ◌*◌, ◌-◌, ◌≤◌, ◌<◌, length, get_or}
use Rattle.meaning.specs.declared.Settings.{Settings}
use Rattle.meaning.specs.Study.{Circuit, Runs, circuit}
use Rattle.meaning.specs.File.{u32, version_of, section, row_at, study_of, runs_in}
use Rattle.meaning.specs.Direction.{overhead_factor, cable_factor, expanded_length}
use Rattle.meaning.specs.Outcome.{answer_of, settle, prints}
use Rattle.meaning.specs.Conditions.{WholeFile, NewVoltage, Acceptable}

-- ---- "one case in either version gives one sheet"
-- whole files that say the same, whatever their versions; whole with the solutions that stand in them, so that no lent run has a part in it
pub record SayTheSame (file file' : List ℕ) : Type 0 where
  pub whole : WholeFile file (runs_in file)
  pub other_whole : WholeFile file' (runs_in file')
  pub settings : (study_of file).settings ≡ (study_of file').settings
  pub nodes : (study_of file).nodes ≡ (study_of file').nodes
  pub circuits : (study_of file).circuits ≡ (study_of file').circuits
  pub stations : (study_of file).stations ≡ (study_of file').stations

-- are settled alike with any runs, share file and buffer, refusals included, judged alike, and with equal solutions print alike
pub record OneCase (file file' : List ℕ) : Type 0 where
  pub settled : (runs : Runs) (share buffer : List ℕ) → settle file runs share buffer ≡ settle file' runs share buffer
  pub judged : (runs : Runs) (share : List ℕ) → answer_of file runs share ≡ answer_of file' runs share
  pub printed : runs_in file ≡ runs_in file' → (share : List ℕ) → prints file share ≡ prints file' share

abbrev pub OneSheetInEitherVersion : Type 0
OneSheetInEitherVersion = (file file' : List ℕ) → SayTheSame file file' → OneCase file file'

-- and each whole file of version 1 with a place in version 2 has a twin there, with the same solutions
pub record Twin (file : List ℕ) : Type 0 where
  pub twin : List ℕ
  pub bytes : ((k : ℕ) → get_or file k 0 < 256) → (k : ℕ) → get_or twin k 0 < 256
  pub version : version_of twin ≡ 2
  pub same : SayTheSame file twin
  pub solutions : runs_in file ≡ runs_in twin

abbrev pub EveryCaseInVersionTwo : Type 0
EveryCaseInVersionTwo = (file : List ℕ) → WholeFile file (runs_in file) → version_of file ≡ 1 → length (study_of file).circuits ≤ 480 → Twin file

-- ---- "Version 1 files read as if the factor were 0", whatever stands behind a row
abbrev pub VersionOneByVoltage : Type 0
VersionOneByVoltage = (file : List ℕ) → version_of file ≡ 1 → (c : ℕ) → (circuit (study_of file).circuits c).factor ≡ 0

-- "circuit rows of 48 bytes, with the new factor last": in version 2 it is a row's last four bytes
abbrev pub FactorLast : Type 0
FactorLast =
    (file : List ℕ) → version_of file ≡ 2 → (c : ℕ) → c < length (study_of file).circuits
    → (circuit (study_of file).circuits c).factor ≡ u32 file (row_at (section file 2) (suc c) - 4)

-- an accepted case with a circuit at 320 or 525 is of version 2
abbrev pub NewVoltagesInVersionTwo : Type 0
NewVoltagesInVersionTwo =
    (file : List ℕ) (runs : Runs) (share : List ℕ) → Acceptable file runs share → (c : ℕ) → c < length (study_of file).circuits → NewVoltage (circuit (study_of file).circuits c).voltage
    → version_of file ≡ 2

-- ---- "otherwise 1,000 to 30,000 for both lengths of the row": nothing of the voltage's factors is left in it
abbrev pub OwnFactorForBothLengths : Type 0
OwnFactorForBothLengths = (s : Settings) (c : Circuit) → c.factor ≢ 0 → expanded_length s c ≡ (c.overhead + c.cable) * c.factor

-- "0 means by voltage": 01's length
abbrev pub NoFactorNoChange : Type 0
NoFactorNoChange =
    (s : Settings) (c : Circuit) → c.factor ≡ 0 → expanded_length s c ≡ c.overhead * overhead_factor s c.voltage + c.cable * cable_factor s c.voltage
