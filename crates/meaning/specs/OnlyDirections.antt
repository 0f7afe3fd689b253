-- 02, request 12: "Only directions count." Does more generation change nodal costs? Not while every direction stays. As statements over the definitions.
use Rattle.std.specs.Prelude.{◌≡◌, ◌≢◌, List, [], ◌∷◌, ℕ, ◌≤◌, ◌<◌, length}
use Rattle.meaning.specs.Rows.{rows}
use Rattle.meaning.specs.Name.{Name}
use Rattle.meaning.specs.declared.Settings.{Settings}
use Rattle.meaning.specs.declared.Edition.TheVariants.{First}
use Rattle.meaning.specs.declared.Background.TheVariants.{YearRound}
use Rattle.meaning.specs.declared.System.{System}
use Rattle.meaning.specs.declared.System.TheVariants.{Base, Wider, Local}
use Rattle.meaning.specs.Study.{Node, Circuit, Study, Runs, node}
use Rattle.meaning.specs.Editions.{HasSystem, OfDistances}
use Rattle.meaning.specs.File.{study_of}
use Rattle.meaning.specs.Grid.{grid_of}
use Rattle.meaning.specs.Figures.{metres_by, wider_metres, local_metres}
use Rattle.meaning.specs.Outcome.{sheet_of}
use Rattle.meaning.specs.Conditions.{Acceptable, HasLength}
use Rattle.meaning.specs.Distances.{apart, DistancesWithin}
use Rattle.meaning.specs.Demands.{SameDirections}

-- "factors": the six expansion factors
abbrev pub factors_of : Settings → List ℕ
factors_of s = s.overhead400 ∷ s.cable400 ∷ s.overhead275 ∷ s.cable275 ∷ s.overhead132 ∷ s.cable132 ∷ []

abbrev pub names_of : List Node → List Name
names_of nodes = rows (length nodes) (λ v. (node nodes v).name)

-- "Prove over edition 1"
abbrev pub BothFirst : (S S' : Study) → Type 0
BothFirst S S' = (S.settings.edition ≡ First) × (S'.settings.edition ≡ First)

-- what is asked of two such cases; nothing is asked of demand, TEC, zones, the other settings, stations and solvers
pub data Asked : Type 0 where
  same_circuits : Asked
  same_names : Asked
  same_factors : Asked
  same_reference : Asked
  same_directions : Asked

-- "equal circuits, node names in equal order, factors and reference, whose circuits with a length have equal directions (idle ones idle in both)"
abbrev pub Holds : Asked → (S S' : Study) (runs runs' : Runs) → Type 0
Holds same_circuits S S' runs runs' = S.circuits ≡ S'.circuits
Holds same_names S S' runs runs' = names_of S.nodes ≡ names_of S'.nodes
Holds same_factors S S' runs runs' = factors_of S.settings ≡ factors_of S'.settings
Holds same_reference S S' runs runs' = S.settings.reference ≡ S'.settings.reference
Holds same_directions S S' runs runs' = SameDirections HasLength S S' runs runs'

-- "two accepted cases" of which all this holds "differ by at most one metre in every nodal distance, whatever their demand and TEC"
abbrev pub OnlyDirectionsCount : Type 0
OnlyDirectionsCount =
    (file file' : List ℕ) (runs runs' : Runs) (share share' : List ℕ)
    → Acceptable file runs share
    → Acceptable file' runs' share'
    → BothFirst (study_of file) (study_of file')
    → ((a : Asked) → Holds a (study_of file) (study_of file') runs runs')
    → DistancesWithin 1 (grid_of (study_of file)) (grid_of (study_of file')) runs runs' share share' (sheet_of file runs share) (sheet_of file' runs' share')

-- ---- and more: a distance is said by the directions of its own system's circuits, a wider one by those without local mark, a local one by those with it
abbrev pub Own : System → Circuit → Type 0
Own (Base b) c = ⊥
Own (Wider b) c = c.local_mark ≡ 0
Own Local c = c.local_mark ≢ 0

abbrev pub OwnDirectionsCount : Type 0
OwnDirectionsCount =
    (file file' : List ℕ) (runs runs' : Runs) (share share' : List ℕ)
    → Acceptable file runs share
    → Acceptable file' runs' share'
    → BothFirst (study_of file) (study_of file')
    → ((a : Asked) → a ≢ same_directions → Holds a (study_of file) (study_of file') runs runs')
    → (s : System) → OfDistances s → HasSystem First s → SameDirections (λ c. HasLength c × Own s c) (study_of file) (study_of file') runs runs'
    → (v : ℕ) → v < length (study_of file).nodes → apart (metres_by s runs v) (metres_by s runs' v) ≤ 1

-- ---- and no less will do
-- two cases, and what holds of them
pub record Two : Type 0 where
  pub file : List ℕ
  pub file' : List ℕ
  pub runs : Runs
  pub runs' : Runs

abbrev pub HoldsOf : Two → Asked → Type 0
HoldsOf t a = Holds a (study_of t.file) (study_of t.file') t.runs t.runs'

-- at some node their wider distances differ by more than a metre
pub record FarApart (t : Two) : Type 0 where
  pub node : ℕ
  pub is_node : node < length (study_of t.file).nodes
  pub far : 2 ≤ apart (wider_metres t.runs YearRound node) (wider_metres t.runs' YearRound node)

-- two accepted cases of which all but this is so; and two of which all is so, the first accepted
pub record Needed (a : Asked) : Type 0 where
  pub two : Two
  pub accepted : Acceptable two.file two.runs []
  pub accepted' : Acceptable two.file' two.runs' []
  pub others : (b : Asked) → b ≢ a → HoldsOf two b
  pub apart : FarApart two

abbrev pub EachIsNeeded : Type 0
EachIsNeeded = (a : Asked) → Needed a

pub record AcceptedIsNeeded : Type 0 where
  pub two : Two
  pub accepted : Acceptable two.file two.runs []
  pub all : (a : Asked) → HoldsOf two a
  pub apart : FarApart two

-- and two accepted cases of which all is so, with a wider and a local distance that differ by a metre
pub record MetreIsReached : Type 0 where
  pub two : Two
  pub accepted : Acceptable two.file two.runs []
  pub accepted' : Acceptable two.file' two.runs' []
  pub all : (a : Asked) → HoldsOf two a
  pub wider : (v : ℕ) × (v < length (study_of two.file).nodes) × (apart (wider_metres two.runs YearRound v) (wider_metres two.runs' YearRound v) ≡ 1)
  pub local : (v : ℕ) × (v < length (study_of two.file).nodes) × (apart (local_metres two.runs v) (local_metres two.runs' v) ≡ 1)
