-- Case TARN, four nodes in a line with halves of metres, as tables and as a file.
use mathlib.Core.Path.{◌≡◌, refl}
use mathlib.Core.List.{List, [], ◌∷◌}
use Prim.Native.Nat.{ℕ, zero, suc, ◌<◌}
use Prim.Native.String.{String}
use native.Mathlib.Omega.{arith}
use lib.IntN.{ℤ, pos, neg_ℤ}
use Rattle.meaning.specs.declared.Edition.TheVariants.{First}
use Rattle.meaning.specs.declared.Settings.{Settings}
use Rattle.meaning.specs.Study.{Node, Circuit, Station, Study, Runs, three_runs}
use Rattle.std.specs.Prelude.{Ok}
use Rattle.meaning.specs.Outcome.{judged}
use Rattle.meaning.specs.Conditions.{Acceptable}
use Rattle.meaning.proofs.Write.{name, file_of}
use Rattle.meaning.proofs.Opened.{opened}
use Rattle.meaning.proofs.Kiln.{station_of}
use Rattle.meaning.proofs.Judged.{judged_pass}

abbrev settings_with : (p : ℕ) → Settings
settings_with p =
    record {
      generation_zones = 2;
      demand_zones = 2;
      p = p;
      constant = 50;
      wider_factor = 1000;
      local_factor = 1000;
      overhead400 = 1000;
      cable400 = 1000;
      overhead275 = 1500;
      cable275 = 1000;
      overhead132 = 2500;
      cable132 = 1000;
      reference = 2;
      edition = First;
      revenue = 1;
    }

-- a node in zone `zone` of both sides
abbrev pub node_of : String → (zone demand : ℕ) → Node
node_of n zone kw = record { name = name n; generation_zone = zone; demand_zone = zone; demand = kw }

abbrev circuit_of : String → String → (voltage metres mark : ℕ) → Circuit
circuit_of a b v m mark = record { first = name a; second = name b; voltage = v; x = 1; overhead = m; cable = 0; local_mark = mark; factor = 0 }

-- by the last circuit's mark; lengths of 4.5, 2.5 and 2.5 m
abbrev pub tarn_circuits : (mark : ℕ) → List Circuit
tarn_circuits mark = circuit_of "HEAD" "MILL" 275 3 0 ∷ circuit_of "MILL" "FORD" 132 1 0 ∷ circuit_of "FORD" "WEIR" 132 1 mark ∷ []

-- by that mark, p, and the demand of each node, with stations
abbrev pub study_with : (mark p head mill ford weir : ℕ) → List Station → Study
study_with mark p head mill ford weir stations =
    record {
      settings = settings_with p;
      nodes = node_of "HEAD" 2 head ∷ node_of "MILL" 1 mill ∷ node_of "FORD" 1 ford ∷ node_of "WEIR" 2 weir ∷ [];
      circuits = tarn_circuits mark;
      stations = stations;
    }

-- 1,000 kW run from HEAD to WEIR
abbrev pub tarn_study : (mark : ℕ) → Study
tarn_study mark =
    study_with mark 900 0 1000 1000 1500
    (station_of "S_1" "HEAD" 1000 ∷ station_of "S_2" "MILL" 1000 ∷ station_of "S_3" "FORD" 1000 ∷ station_of "S_4" "WEIR" 500 ∷ [])

-- by WEIR's wider and local potential
abbrev pub runs_with : (wider local : ℤ) → Runs
runs_with wider local =
    three_runs
    (pos 1000000000 ∷ pos 0 ∷ neg_ℤ (pos 1000000000) ∷ neg_ℤ (pos 2000000000) ∷ pos 1000000000 ∷ pos 1000000000 ∷ pos 1000000000 ∷ [])
    (pos 4500000000 ∷ pos 0 ∷ neg_ℤ (pos 2500000000) ∷ wider ∷ pos 0 ∷ pos 0 ∷ pos 0 ∷ [])
    (pos 0 ∷ pos 0 ∷ pos 0 ∷ local ∷ pos 0 ∷ pos 0 ∷ pos 0 ∷ [])

abbrev pub tarn_runs : Runs
tarn_runs = runs_with (neg_ℤ (pos 2500000000)) (neg_ℤ (pos 2500000000))

abbrev pub tarn : List ℕ
tarn = file_of (tarn_study 1) tarn_runs

tarn_judged : judged tarn tarn_runs [] ≡ Ok tt
unfolding opened
tarn_judged = refl

pub tarn_acceptable : Acceptable tarn tarn_runs []
tarn_acceptable = (judged_pass tarn tarn_runs []).0 tarn_judged

-- what holds of four nodes
pub four : (P : ℕ → Type 0) → P 0 → P 1 → P 2 → P 3 → (v : ℕ) → v < 4 → P v
four P a b c d zero h = a
four P a b c d (suc zero) h = b
four P a b c d (suc (suc zero)) h = c
four P a b c d (suc (suc (suc zero))) h = d
four P a b c d (suc (suc (suc (suc v)))) h = absurd (omega arith)

-- and of three circuits
pub three : (P : ℕ → Type 0) → P 0 → P 1 → P 2 → (c : ℕ) → c < 3 → P c
three P a b c zero h = a
three P a b c (suc zero) h = b
three P a b c (suc (suc zero)) h = c
three P a b c (suc (suc (suc v))) h = absurd (omega arith)
