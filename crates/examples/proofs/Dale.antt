-- A middling case, DALE: five nodes, seven circuits at 400, 275 and 132 kV with overhead and cable, two of them marked, six stations of five plant types,
-- an empty zone on each side, p 270. Two kilowatts are missing and three nodes have something over; one circuit is idle and two flow backward;
-- the average of demand zone 2 is -33,006.5, a half, and so -33,007. LINK is an interconnector and all the TEC of generation zone 3, whose line nobody pays.
-- Its proposals come from a solver outside, and its sheet from an independent reference.
use mathlib.Core.Path.{◌≡◌, refl}
use mathlib.Core.List.{List, [], ◌∷◌, ◌++◌}
use Prim.Native.Nat.{ℕ, ◌*◌}
use Prim.Native.String.{String}
use lib.IntN.{pos, neg_ℤ, ◌+ℤ◌}
use lib.ListN.{length}
use Rattle.meaning.specs.declared.Edition.TheVariants.{First}
use Rattle.meaning.specs.Rows.{rows}
use Rattle.meaning.specs.Text.{text}
use Rattle.meaning.specs.Study.{Node, Circuit, Station, Study, Runs, three_runs}
use Rattle.meaning.specs.File.{runs_in}
use Rattle.meaning.specs.Scaled.{missing, scaled}
use Rattle.meaning.specs.Grid.{grid_of, node_tec, total_demand}
use Rattle.meaning.specs.declared.Settings.{Settings}
use Rattle.meaning.specs.declared.Direction.TheVariants.{Idle, Forward, Backward}
use Rattle.std.specs.Prelude.{Ok}
use Rattle.meaning.specs.declared.Side.TheVariants.{Generation, Demand}
use Rattle.meaning.specs.declared.Background.TheVariants.{YearRound, Peak}
use Rattle.meaning.specs.declared.System.{System}
use Rattle.meaning.specs.declared.System.TheVariants.{Base, Wider, Local}
use Rattle.meaning.specs.Systems.{heading}
use Rattle.meaning.specs.Outcome.{judged, prints}
use Rattle.meaning.specs.Read.{side_income, printed_remainder}
use Rattle.meaning.proofs.Write.{name, file_of}
use Rattle.meaning.proofs.Opened.{opened}

abbrev dale_settings : Settings
dale_settings =
    record {
      generation_zones = 3;
      demand_zones = 3;
      p = 270;
      constant = 1007;
      wider_factor = 1800;
      local_factor = 1015;
      overhead400 = 1000;
      cable400 = 10630;
      overhead275 = 1240;
      cable275 = 11450;
      overhead132 = 2590;
      cable132 = 22780;
      reference = 2;
      edition = First;
      revenue = 1234567;
    }

abbrev node_of : String → (generation_zone demand_zone demand : ℕ) → Node
node_of n g d kw = record { name = name n; generation_zone = g; demand_zone = d; demand = kw }

abbrev circuit_of : String → String → (voltage x overhead cable mark : ℕ) → Circuit
circuit_of a b v x o c m = record { first = name a; second = name b; voltage = v; x = x; overhead = o; cable = c; local_mark = m; factor = 0 }

abbrev station_of : String → String → (plant_type tec : ℕ) → Station
station_of i n t kw = record { identifier = name i; node = name n; plant_type = t; tec = kw }

abbrev dale_study : Study
dale_study =
    record {
      settings = dale_settings;
      nodes = node_of "FELL" 1 1 0 ∷ node_of "MOOR" 3 1 19151 ∷ node_of "COVE_1" 1 2 25000 ∷ node_of "QUAY" 3 2 25000 ∷ node_of "VALE" 1 1 0 ∷ [];
      circuits =
          circuit_of "FELL" "MOOR" 400 182 7332 308 0
          ∷ circuit_of "COVE_1" "MOOR" 275 108 59517 433 0
          ∷ circuit_of "FELL" "COVE_1" 400 69 17038 0 0
          ∷ circuit_of "QUAY" "MOOR" 132 519 8359 1148 0
          ∷ circuit_of "QUAY" "COVE_1" 275 62 21459 0 0
          ∷ circuit_of "MOOR" "VALE" 132 703 772 641 1
          ∷ circuit_of "VALE" "FELL" 275 152 0 680 1
          ∷ [];
      stations = station_of "WIND_1" "VALE" 1 11292 ∷ station_of "HYDRO" "FELL" 4 39079 ∷ station_of "PEAK" "FELL" 6 7935 ∷ station_of "LINK" "QUAY" 3 29814 ∷ station_of "CCS" "COVE_1" 2 0 ∷ station_of "WIND_2" "VALE" 1 4807 ∷ [];
    }

abbrev dale_runs : Runs
dale_runs =
    three_runs
    (pos 2260164479538 ∷ pos 0 ∷ pos 205796662677 ∷ pos 27985500739 ∷ pos 3355466260953 ∷ pos 12418486151 ∷ pos 1905524654 ∷ pos 29773446621 ∷ pos 53921967 ∷ neg_ℤ (pos 2867921967) ∷ neg_ℤ (pos 4773067228) ∷ pos 7205932772 ∷ [])
    (pos 46910180803479 ∷ pos 0 ∷ pos 47421572470026 ∷ pos 18591466561004 ∷ pos 38570593105083 ∷ pos 199473301118 ∷ neg_ℤ (pos 290160717870) ∷ neg_ℤ (pos 254339009660) ∷ pos 35821708210 ∷ neg_ℤ (pos 35821708210) ∷ neg_ℤ (pos 54865708542) ∷ neg_ℤ (pos 54865708542) ∷ [])
    (pos 798561266966 ∷ pos 0 ∷ pos 454334724039 ∷ pos 405851500476 ∷ pos 10009787708394 ∷ pos 4387699269 ∷ pos 4206803000 ∷ pos 4988790477 ∷ pos 781987477 ∷ neg_ℤ (pos 781987477) ∷ pos 9376489746 ∷ pos 9376489746 ∷ [])

-- the 1,036 bytes
abbrev dale : List ℕ
dale = file_of dale_study dale_runs

dale_length : length dale ≡ 1036
dale_length = refl

dale_runs_lem : (s : System) → runs_in dale s ≡ dale_runs s
unfolding opened
dale_runs_lem (Base YearRound) = refl
dale_runs_lem (Wider YearRound) = refl
dale_runs_lem Local = refl
dale_runs_lem (Base Peak) = refl
dale_runs_lem (Wider Peak) = refl

dale_judged : judged dale dale_runs [] ≡ Ok tt
unfolding opened
dale_judged = refl

abbrev dale_sheet : List ℕ
dale_sheet =
    text "C -29145\n" ++ text "G 1 44783 15638 283454 13964051 14247505\n" ++ text "G 2 -\n" ++ text "G 3 18591 -10554 -191302 13964051 13772749\n" ++ text "D 1 0 29145 528282 4724676 5252958\n" ++ text "D 2 -33007 -3862 -70003 4724676 4654673\n" ++ text "D 3 -\n" ++ text "L FELL 799 8167\n" ++ text "L QUAY 406 4150\n" ++ text "L VALE 10010 102313\n" ++ text "R 26610 41342\n"

dale_prints : prints dale [] ≡ dale_sheet
unfolding opened
dale_prints = refl

-- step 1: what is missing goes to the first two of the three nodes that have something over
dale_missing : missing 5 (node_tec (grid_of dale_study)) (total_demand (grid_of dale_study)) ≡ 2
unfolding opened
dale_missing = refl

dale_scaled : rows 5 (scaled 5 (node_tec (grid_of dale_study)) (total_demand (grid_of dale_study))) ≡ 34986 ∷ 0 ∷ 0 ∷ 22186 ∷ 11979 ∷ []
unfolding opened
dale_scaled = refl

-- step 4: directions
dale_directions : rows 7 (heading (grid_of dale_study) dale_runs) ≡ Forward ∷ Forward ∷ Forward ∷ Idle ∷ Backward ∷ Backward ∷ Forward ∷ []
unfolding opened
dale_directions = refl

-- step 10: each side has its target, 730 and 270 thousandths of the revenue
dale_generation : side_income (grid_of dale_study) [] Generation dale_sheet +ℤ printed_remainder Generation dale_sheet ≡ pos (1234567 * 730 * 1000)
unfolding opened
dale_generation = refl

dale_demand : side_income (grid_of dale_study) [] Demand dale_sheet +ℤ printed_remainder Demand dale_sheet ≡ pos (1234567 * 270 * 1000)
unfolding opened
dale_demand = refl
