-- 02, request 5: a case of edition 2, made from KILN: six plant types, a marked cable of 320 kV with its own factor, and both backgrounds. Its five solutions are exact.
use mathlib.Core.Path.{◌≡◌, refl}
use mathlib.Core.List.{List, [], ◌∷◌, ◌++◌}
use Prim.Native.Nat.{ℕ}
use Prim.Native.String.{String}
use lib.IntN.{ℤ, pos, neg_ℤ}
use lib.ListN.{length, get_or}
use Rattle.meaning.specs.Text.{text}
use Rattle.meaning.specs.Rows.{rows}
use Rattle.meaning.specs.declared.Settings.{Settings}
use Rattle.meaning.specs.Study.{Node, Circuit, Station, Study, Runs, runs_of}
use Rattle.meaning.specs.File.{study_of}
use Rattle.meaning.specs.declared.Edition.TheVariants.{Second}
use Rattle.meaning.specs.declared.Background.TheVariants.{YearRound, Peak}
use Rattle.meaning.specs.declared.Side.TheVariants.{Generation, Demand}
use Rattle.meaning.specs.Outcome.{prints}
use Rattle.meaning.specs.Grid.{grid_of}
use Rattle.meaning.specs.declared.Counting.TheVariants.{For, Doubtful}
use Rattle.meaning.specs.declared.Plant.TheVariants.{Intermittent, Hydro, PumpedStorage}
use Rattle.meaning.specs.Direction.{by_flows}
use Rattle.meaning.specs.Generation.{runs_as, fixed_part, generation}
use Rattle.meaning.specs.Systems.{background_of}
use Rattle.meaning.specs.Read.{side_income, printed_remainder}
use Rattle.meaning.proofs.Write.{name, file_in}
use Rattle.meaning.proofs.Opened.{opened}
use Rattle.meaning.proofs.Kiln.{kiln_circuits}

abbrev pub both_settings : Settings
both_settings =
    record {
      generation_zones = 3;
      demand_zones = 1;
      p = 500;
      constant = 1000;
      wider_factor = 1800;
      local_factor = 1000;
      overhead400 = 1000;
      cable400 = 1000;
      overhead275 = 1000;
      cable275 = 1000;
      overhead132 = 1000;
      cable132 = 1000;
      reference = 3;
      edition = Second;
      revenue = 100000;
    }

abbrev pub both_nodes : List Node
both_nodes =
    record { name = name "NODA"; generation_zone = 1; demand_zone = 1; demand = 0 }
    ∷ record { name = name "NODB"; generation_zone = 2; demand_zone = 1; demand = 30000 }
    ∷ record { name = name "NODC"; generation_zone = 1; demand_zone = 1; demand = 120000 }
    ∷ []

abbrev pub both_circuits : List Circuit
both_circuits =
    kiln_circuits
    ++ (record { first = name "NODA"; second = name "NODC"; voltage = 320; x = 150; overhead = 0; cable = 2500; local_mark = 1; factor = 2000 } ∷ [])

abbrev pub plant : String → String → (plant_type kw : ℕ) → Station
plant i n plant_type kw = record { identifier = name i; node = name n; plant_type = plant_type; tec = kw }

abbrev pub both_stations : List Station
both_stations =
    plant "WIND" "NODA" 1 100000 ∷ plant "GAS" "NODA" 7 150000 ∷ plant "NUCLEAR" "NODB" 2 60000 ∷ plant "LINK" "NODB" 3 10000
    ∷ plant "PUMPED" "NODB" 5 20000
    ∷ plant "OIL" "NODC" 6 15000
    ∷ []

abbrev pub both_study : Study
both_study = record { settings = both_settings; nodes = both_nodes; circuits = both_circuits; stations = both_stations }

abbrev pub both_base : List ℤ
both_base = pos 5970000000000 ∷ pos 5035000000000 ∷ pos 0 ∷ pos 9350000000 ∷ pos 50350000000 ∷ pos 29850000000 ∷ pos 39800000000 ∷ []

abbrev pub both_wider : List ℤ
both_wider = pos 6000000000000 ∷ pos 13000000000000 ∷ pos 0 ∷ neg_ℤ (pos 70000000000) ∷ neg_ℤ (pos 70000000000) ∷ pos 30000000000 ∷ pos 40000000000 ∷ []

abbrev pub both_local : List ℤ
both_local = pos 2000000000000 ∷ pos 1000000000000 ∷ pos 0 ∷ pos 10000000000 ∷ pos 10000000000 ∷ pos 10000000000 ∷ neg_ℤ (pos 20000000000) ∷ []

abbrev pub both_peak_base : List ℤ
both_peak_base = pos 6079620000000 ∷ pos 3988810000000 ∷ pos 0 ∷ pos 20908100000 ∷ pos 39888100000 ∷ pos 30398100000 ∷ pos 40530800000 ∷ []

abbrev pub both_peak_wider : List ℤ
both_peak_wider = pos 13200000000000 ∷ pos 1600000000000 ∷ pos 0 ∷ pos 16000000000 ∷ pos 16000000000 ∷ neg_ℤ (pos 104000000000) ∷ pos 88000000000 ∷ []

abbrev pub both_runs : Runs
both_runs = runs_of both_base both_wider both_local both_peak_base both_peak_wider

abbrev pub both : List ℕ
both = file_in 2 both_study both_runs

both_read : (study_of both ≡ both_study) × (length both ≡ 880)
unfolding opened
both_read = (refl, refl)

-- 150,000 kW in each background. By hand, year round: 70, 85, 100 and 50 % are 70,000, 51,000, 10,000 and 10,000, and gas has the 9,000 that remain;
-- peak: gas, nuclear, pumped storage and oil share all, 245,000 kW of TEC
generated : (rows 3 (generation (grid_of both_study) YearRound) ≡ 79000 ∷ 71000 ∷ 0 ∷ [])
    × (rows 3 (generation (grid_of both_study) Peak) ≡ 91837 ∷ 48980 ∷ 9183 ∷ [])
unfolding opened
generated = (refl, refl)

-- A-B and A-C carry more in peak, B-C year round; the marked circuit counts for year round
counted : rows 4 (background_of (grid_of both_study) both_runs) ≡ Peak ∷ YearRound ∷ Peak ∷ YearRound ∷ []
unfolding opened
counted = refl

-- the edges of the bands, whichever way the flows run: peak up to 400,000,000 more, in doubt up to 800,000,000, year round above
edges : rows 5 (λ i. by_flows (pos (get_or (1000 ∷ 400001000 ∷ 400001001 ∷ 800001000 ∷ 800001001 ∷ []) i 0)) (neg_ℤ (pos 1000)))
    ++ rows 5 (λ i. by_flows (neg_ℤ (pos (get_or (999 ∷ 400001000 ∷ 400001001 ∷ 800001000 ∷ 800001001 ∷ []) i 0))) (pos 1000))
    ≡ For Peak ∷ For Peak ∷ Doubtful ∷ Doubtful ∷ For YearRound ∷ For Peak ∷ For Peak ∷ Doubtful ∷ Doubtful ∷ For YearRound ∷ []
unfolding opened
edges = refl

-- percentages are of a node's TEC of a type: of 199 kW of pumped storage 99 run
percents : fixed_part (runs_as Second YearRound PumpedStorage) 199 ∷ fixed_part (runs_as Second YearRound Intermittent) 101 ∷ fixed_part (runs_as Second Peak Hydro) 100 ∷ [] ≡ 99 ∷ 70 ∷ 0 ∷ []
unfolding opened
percents = refl

abbrev pub both_sheet : List ℕ
both_sheet =
    text "C -5647 -5919\n" ++ text "G 1 12453 6806 122508 5660 -259 -4662 60442 178288\n" ++ text "G 2 1600 -4047 -72846 13000 7081 127458 60442 115054\n"
    ++ text "G 3 -\n" ++ text "D 1 -320 5327 95886 -2600 3319 59742 177705 333333\n"
    ++ text "L NODA 2000 20000\n" ++ text "L NODB 1000 10000\n" ++ text "L NODC 0 0\n" ++ text "R 160000 50000\n"

pub both_prints : prints both [] ≡ both_sheet
unfolding opened
both_prints = refl

-- read back from its bytes, the sheet brings in 50,000 pounds from each side, less its remainder
both_income : (side_income (grid_of both_study) [] Generation both_sheet ≡ pos 49999840000) × (side_income (grid_of both_study) [] Demand both_sheet ≡ pos 49999950000)
    × (printed_remainder Generation both_sheet ≡ pos 160000)
    × (printed_remainder Demand both_sheet ≡ pos 50000)
unfolding opened
both_income = (refl, refl, refl, refl)
