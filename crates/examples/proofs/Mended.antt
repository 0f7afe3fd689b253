-- KILN with a fault of nearly every number at once, mended one after the other: what stops it moves on in 01's order.
use mathlib.Core.Path.{◌≡◌, refl}
use mathlib.Core.List.{List, [], ◌∷◌}
use Prim.Native.Nat.{ℕ}
use lib.IntN.{ℤ, pos}
use lib.ListN.{set, replicate}
use Rattle.meaning.specs.declared.Edition.TheVariants.{First}
use Rattle.meaning.specs.declared.Settings.{Settings}
use Rattle.meaning.specs.Study.{Node, Circuit, Station, Runs, three_runs}
use Rattle.meaning.specs.declared.Background.TheVariants.{YearRound}
use Rattle.meaning.specs.declared.System.TheVariants.{Base, Wider, Local}
use Rattle.meaning.specs.declared.Refusal.TheVariants.{BadFile, BadSetting, BadNode, BadCircuit, BadStation, Unreached, BadTotal, BadNumber, Unbalanced, MissesTooHigh, ShortBuffer, NoChargeableTec}
use Rattle.meaning.specs.Answers.{Answer}
use Rattle.std.specs.Prelude.{Err}
use Rattle.meaning.specs.Outcome.{settle}
use Rattle.meaning.proofs.Write.{file_of}
use Rattle.meaning.proofs.Opened.{opened}
use Rattle.meaning.proofs.Kiln.{kiln_settings, kiln_nodes, kiln_circuits, kiln_stations, kiln_base, kiln_wider, kiln_local, node_of, circuit_of}
use Rattle.meaning.proofs.Links.{link_of}

-- the faults: reference row 4 of 3; rows 2 and 3 without a name; an unknown end, and then no circuit at NODB; a repeated identifier, and then too little TEC, and then none that pays
abbrev lost_reference : Settings
lost_reference = record {
  generation_zones = 1;
  demand_zones = 1;
  p = 500;
  constant = 1000;
  wider_factor = 1800;
  local_factor = 1000;
  overhead400 = 1000;
  cable400 = 1000;
  overhead275 = 1000;
  cable275 = 1000;
  overhead132 = 1000;
  cable132 = 1000;
  reference = 4;
  edition = First;
  revenue = 100000;
}

abbrev nameless : List Node
nameless = node_of "NODA" 0 ∷ node_of "" 30000 ∷ node_of "" 120000 ∷ []

abbrev unknown_end : List Circuit
unknown_end = circuit_of "NODA" "NODC" 100 10000 ∷ circuit_of "NODA" "NODX" 100 20000 ∷ circuit_of "NODA" "NODC" 200 34000 ∷ []

abbrev apart : List Circuit
apart = circuit_of "NODA" "NODC" 100 10000 ∷ circuit_of "NODA" "NODC" 100 20000 ∷ circuit_of "NODA" "NODC" 200 34000 ∷ []

abbrev repeated : List Station
repeated = link_of "GEN_1" "NODA" 100000 ∷ link_of "GEN_1" "NODB" 49999 ∷ []

abbrev small : List Station
small = link_of "GEN_1" "NODA" 100000 ∷ link_of "GEN_2" "NODB" 49999 ∷ []

abbrev linked : List Station
linked = link_of "GEN_1" "NODA" 100000 ∷ link_of "GEN_2" "NODB" 50000 ∷ []

-- of a run: potential 1 at the reference; a flow that breaks two balances; a potential that misses by twice 200,000,000
abbrev missing_by : List ℤ → (first : ℕ) → List ℤ
missing_by run first = set run 0 (pos first)

abbrev leaking : List ℤ → (flow : ℕ) → List ℤ
leaking run flow = set run 3 (pos flow)

abbrev lifted : List ℤ → List ℤ
lifted run = set run 2 (pos 1)

-- three states of each run, by what is still wrong with it: 10; 9 and 10; 8, 9 and 10
abbrev base₁₀ : List ℤ
base₁₀ = missing_by kiln_base 11000200000000

abbrev base₉ : List ℤ
base₉ = leaking base₁₀ 45010000000

abbrev base₈ : List ℤ
base₈ = lifted base₉

abbrev wider₁₀ : List ℤ
wider₁₀ = missing_by kiln_wider 32000200000000

abbrev wider₉ : List ℤ
wider₉ = leaking wider₁₀ 10010000000

abbrev wider₈ : List ℤ
wider₈ = lifted wider₉

abbrev local₁₀ : List ℤ
local₁₀ = missing_by kiln_local 200000000

abbrev local₉ : List ℤ
local₉ = leaking local₁₀ 1

abbrev local₈ : List ℤ
local₈ = lifted local₉

-- a case in a buffer of 5 bytes
abbrev answer : Settings → List Node → List Circuit → List Station → (b w l : List ℤ) → Answer
answer settings nodes circuits stations b w l =
    let runs : Runs = three_runs b w l in
    (settle (file_of (record { settings = settings; nodes = nodes; circuits = circuits; stations = stations }) runs) runs [] (replicate 5 7)).answer

abbrev in_five : (b w l : List ℤ) → Answer
in_five b w l = answer kiln_settings kiln_nodes kiln_circuits kiln_stations b w l

-- the same with version 3 (byte 532)
version : (let runs : Runs = three_runs base₈ wider₈ local₈ in
    (settle (set (file_of (record { settings = lost_reference; nodes = nameless; circuits = unknown_end; stations = repeated }) runs) 532 3) runs [] (replicate 5 7)).answer)
    ≡ Err BadFile
unfolding opened
version = refl

-- 2 to 7, and 13
tables : answer lost_reference nameless unknown_end repeated base₈ wider₈ local₈
    ∷ answer kiln_settings nameless unknown_end repeated base₈ wider₈ local₈
    ∷ answer kiln_settings kiln_nodes unknown_end repeated base₈ wider₈ local₈
    ∷ answer kiln_settings kiln_nodes apart repeated base₈ wider₈ local₈
    ∷ answer kiln_settings kiln_nodes apart small base₈ wider₈ local₈
    ∷ answer kiln_settings kiln_nodes kiln_circuits small base₈ wider₈ local₈
    ∷ answer kiln_settings kiln_nodes kiln_circuits linked base₈ wider₈ local₈
    ∷ []
    ≡ Err BadSetting ∷ Err (BadNode 2) ∷ Err (BadCircuit 2) ∷ Err (BadStation 2) ∷ Err (Unreached 2) ∷ Err BadTotal ∷ Err NoChargeableTec ∷ []
unfolding opened
tables = refl

-- 8, 9, 10 of base, wider and local; then 12
proposals : in_five base₈ wider₈ local₈ ∷ in_five base₉ wider₈ local₈ ∷ in_five base₁₀ wider₈ local₈ ∷ []
    ≡ Err (BadNumber (Base YearRound) 3) ∷ Err (Unbalanced (Base YearRound) 1) ∷ Err (MissesTooHigh (Base YearRound)) ∷ []
unfolding opened
proposals = refl

wider : in_five kiln_base wider₈ local₈ ∷ in_five kiln_base wider₉ local₈ ∷ in_five kiln_base wider₁₀ local₈ ∷ []
    ≡ Err (BadNumber (Wider YearRound) 3) ∷ Err (Unbalanced (Wider YearRound) 1) ∷ Err (MissesTooHigh (Wider YearRound)) ∷ []
unfolding opened
wider = refl

local : in_five kiln_base kiln_wider local₈ ∷ in_five kiln_base kiln_wider local₉ ∷ in_five kiln_base kiln_wider local₁₀ ∷ in_five kiln_base kiln_wider kiln_local ∷ []
    ≡ Err (BadNumber Local 3) ∷ Err (Unbalanced Local 1) ∷ Err (MissesTooHigh Local) ∷ Err ShortBuffer ∷ []
unfolding opened
local = refl
