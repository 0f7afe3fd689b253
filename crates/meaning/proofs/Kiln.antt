-- Case KILN of document 01, from its text, and what the definitions make of it.
use mathlib.Core.Path.{◌≡◌, refl}
use mathlib.Core.List.{List, [], ◌∷◌, ◌++◌}
use Prim.Native.Nat.{ℕ, ◌*◌, ◌-◌}
use Prim.Native.String.{String}
use lib.IntN.{ℤ, pos, neg_ℤ}
use lib.ListN.{length, replicate, set}
use Rattle.meaning.specs.declared.Edition.TheVariants.{First}
use Rattle.meaning.specs.Text.{text}
use Rattle.meaning.specs.declared.Settings.{Settings}
use Rattle.meaning.specs.Study.{Node, Circuit, Station, Study, Runs, three_runs}
use Rattle.meaning.specs.File.{study_of}
use Rattle.meaning.specs.declared.Background.TheVariants.{YearRound}
use Rattle.meaning.specs.declared.System.TheVariants.{Wider}
use Rattle.meaning.specs.declared.Refusal.TheVariants.{BadNumber, ShortBuffer}
use Rattle.std.specs.Prelude.{Ok, Err}
use Rattle.meaning.specs.Outcome.{judged, prints, settle}
use Rattle.meaning.specs.declared.Side.TheVariants.{Generation, Demand}
use Rattle.meaning.specs.Grid.{grid_of}
use Rattle.meaning.specs.Read.{printed_income, printed_remainder}
use Rattle.meaning.proofs.Write.{name, file_of}
use Rattle.meaning.proofs.Opened.{opened}

abbrev pub kiln_settings : Settings
kiln_settings =
    record {
      generation_zones = 1;
      demand_zones = 1;
      p = 500;
      constant = 1000;
      wider_factor = 1800;
      local_factor = 1000;
      overhead400 = 1000;
      cable400 = 1000;
      overhead275 = 1000;
      cable275 = 1000;
      overhead132 = 1000;
      cable132 = 1000;
      reference = 3;
      edition = First;
      revenue = 100000;
    }

-- a node of zones 1 and 1; an unmarked 400 kV overhead circuit; a station of type 7
abbrev pub node_of : String → ℕ → Node
node_of n kw = record { name = name n; generation_zone = 1; demand_zone = 1; demand = kw }

abbrev pub circuit_of : String → String → (x metres : ℕ) → Circuit
circuit_of a b x metres =
    record { first = name a; second = name b; voltage = 400; x = x; overhead = metres; cable = 0; local_mark = 0; factor = 0 }

abbrev pub station_of : String → String → ℕ → Station
station_of i n kw = record { identifier = name i; node = name n; plant_type = 7; tec = kw }

abbrev pub kiln_nodes : List Node
kiln_nodes = node_of "NODA" 0 ∷ node_of "NODB" 30000 ∷ node_of "NODC" 120000 ∷ []

abbrev pub kiln_circuits : List Circuit
kiln_circuits = circuit_of "NODA" "NODB" 100 10000 ∷ circuit_of "NODB" "NODC" 100 20000 ∷ circuit_of "NODA" "NODC" 200 34000 ∷ []

abbrev pub kiln_stations : List Station
kiln_stations = station_of "GEN_1" "NODA" 200000 ∷ station_of "GEN_2" "NODB" 100000 ∷ []

abbrev pub kiln_study : Study
kiln_study = record { settings = kiln_settings; nodes = kiln_nodes; circuits = kiln_circuits; stations = kiln_stations }

abbrev pub kiln_base : List ℤ
kiln_base = pos 11000000000000 ∷ pos 6500000000000 ∷ pos 0 ∷ pos 45000000000 ∷ pos 65000000000 ∷ pos 55000000000 ∷ []

abbrev pub kiln_wider : List ℤ
kiln_wider = pos 32000000000000 ∷ pos 21000000000000 ∷ pos 0 ∷ pos 10000000000 ∷ pos 10000000000 ∷ neg_ℤ (pos 10000000000) ∷ []

abbrev pub kiln_local : List ℤ
kiln_local = replicate 6 (pos 0)

abbrev pub kiln_runs : Runs
kiln_runs = three_runs kiln_base kiln_wider kiln_local

-- the 540 bytes
abbrev pub kiln : List ℕ
kiln = file_of kiln_study kiln_runs

kiln_length : length kiln ≡ 540
kiln_length = refl

-- read back, the file says what was written
pub kiln_read : study_of kiln ≡ kiln_study
unfolding opened
kiln_read = refl

abbrev pub kiln_sheet : List ℕ
kiln_sheet =
    text "C -20289\n" ++ text "G 1 28333 8044 144792 21874 166666\n" ++ text "D 1 -4200 16089 289602 43731 333333\n"
    ++ text "L NODA 0 0\n" ++ text "L NODB 0 0\n" ++ text "R 200000 50000\n"

-- 01: "The program prints all of"
pub kiln_prints : prints kiln [] ≡ kiln_sheet
unfolding opened
kiln_prints = refl

pub kiln_judged : judged kiln kiln_runs [] ≡ Ok tt
unfolding opened
kiln_judged = refl

-- a buffer of 200 bytes holds the sheet at its front, and is otherwise as it was
pub kiln_settled : settle kiln kiln_runs [] (replicate 200 7) ≡ record { answer = Ok 117; buffer = kiln_sheet ++ replicate 83 7 }
unfolding opened
kiln_settled = refl

-- read back from its bytes, the sheet brings in 100,000 pounds less the two remainders
kiln_income : printed_income (grid_of kiln_study) [] kiln_sheet ≡ pos (100000 * 1000000 - 250000)
unfolding opened
kiln_income = refl

kiln_remainders : (printed_remainder Generation kiln_sheet ≡ pos 200000) × (printed_remainder Demand kiln_sheet ≡ pos 50000)
unfolding opened
kiln_remainders = (refl, refl)

-- 8: the reference's potential is 1 in the wider run
ground : judged kiln (three_runs kiln_base (set kiln_wider 2 (pos 1)) kiln_local) [] ≡ Err (BadNumber (Wider YearRound) 3)
unfolding opened
ground = refl

-- 12: a buffer one byte short is refused and stays as it was; an exact fit is written
shortened : settle kiln kiln_runs [] (replicate 116 7) ≡ record { answer = Err ShortBuffer; buffer = replicate 116 7 }
unfolding opened
shortened = refl

exact : settle kiln kiln_runs [] (replicate 117 7) ≡ record { answer = Ok 117; buffer = kiln_sheet }
unfolding opened
exact = refl
