-- Example 3 and Exercise 3 of the tutorial (source document 002), cases TUT3_E2 and TUT3_NOPEAK: TUT1's network by request 5 of 02, and what the tutorial prints of it. Each is computed here.
use mathlib.Core.Path.{◌≡◌, refl}
use mathlib.Core.List.{List, [], ◌∷◌, ◌++◌}
use Prim.Native.Nat.{ℕ, ◌*◌}
use lib.IntN.{ℤ, pos, neg_ℤ, ◌-ℤ◌, ◌*ℤ◌}
use lib.ListN.{replicate}
use Rattle.meaning.specs.Text.{text}
use Rattle.meaning.specs.Rows.{rows}
use Rattle.meaning.specs.declared.Edition.TheVariants.{Second}
use Rattle.meaning.specs.declared.Background.{Background}
use Rattle.meaning.specs.declared.Background.TheVariants.{YearRound, Peak}
use Rattle.std.specs.Prelude.{Err}
use Rattle.meaning.specs.declared.Refusal.TheVariants.{Unscalable}
use Rattle.meaning.specs.Study.{Station, Runs, Metres, runs_of}
use Rattle.meaning.specs.File.{study_of}
use Rattle.meaning.specs.Grid.{Grid, grid_of, node_demand, total_demand}
use Rattle.meaning.specs.Generation.{generation, total_fixed, total_variable}
use Rattle.meaning.specs.Systems.{background_of}
use Rattle.meaning.specs.Charging.{weighed_in, average_of}
use Rattle.meaning.specs.Figures.{wider_metres, local_metres}
use Rattle.meaning.specs.Outcome.{judged, prints}
use Rattle.meaning.specs.Conditions.{Acceptable}
use Rattle.meaning.proofs.Write.{file_in}
use Rattle.meaning.proofs.Opened.{opened}
use Rattle.meaning.proofs.Judged.{judged_pass}
use Rattle.tutorial.proofs.Cases.{settings_in, plant, study_with, base_with, wider_with, local_run, forward_wider}

-- ---- tables
-- by the types of A's and D's stations; B has nuclear plant, and what else there is comes last
abbrev stations_with : (a d : ℕ) → List Station → List Station
stations_with a d others = plant "GENA" "SUBA" a 60000 ∷ plant "GENB" "SUBB" 2 140000 ∷ plant "GEND" "SUBD" d 300000 ∷ others

abbrev peaking : List Station
peaking = plant "GENB2" "SUBB" 6 100000 ∷ []

-- TUT1's network in edition 2, as a file of version 2
abbrev file_with : List Station → Runs → List ℕ
file_with stations runs = file_in 2 (study_with (settings_in Second 1000 1) 400 stations) runs

-- ---- TUT3_E2: wind at A, peaking plant at B, other plant at D
abbrev year_round_base : List ℤ
year_round_base =
    base_with (neg_ℤ (pos 287500000000)) (neg_ℤ (pos 906250000000)) (pos 2568750000000) (pos 5750000000) (pos 36250000000) (pos 24750000000) (pos 139000000000)

-- of the lengths A-C's alone
abbrev year_round_wider : List ℤ
year_round_wider = wider_with (neg_ℤ (pos 5000000000000)) (neg_ℤ (pos 7500000000000)) (neg_ℤ (pos 100000000000))

abbrev peak_base : List ℤ
peak_base =
    base_with (pos 416675000000) (neg_ℤ (pos 208337500000)) (pos 3958312500000) (neg_ℤ (pos 8333500000)) (pos 8333500000) (pos 25000500000) (pos 166666000000)

-- A-B's, backward, and B-C's
abbrev peak_wider : List ℤ
peak_wider = wider_with (pos 15000000000000) (pos 2500000000000) (neg_ℤ (pos 100000000000))

abbrev pub example_runs : Runs
example_runs = runs_of year_round_base year_round_wider local_run peak_base peak_wider

abbrev pub example : List ℕ
example = file_with (stations_with 1 7 peaking) example_runs

abbrev pub example_grid : Grid
example_grid = grid_of (study_of example)

example_acceptable : Acceptable example example_runs []
unfolding opened
example_acceptable = (judged_pass example example_runs []).0 refl

abbrev pub example_sheet : List ℕ
example_sheet =
    text "C -7819 5893\n"
    ++ text "G 1 0 -7819 -140742 0 5893 106074 2093593 2058925\nG 2 15000 7181 129258 -5000 893 16074 2093593 2238925\nG 3 -\n"
    ++ text "G 4 2500 -5319 -95742 -7500 -1607 -28926 2093593 1968925\n"
    ++ text "D 1 -\nD 2 -15000 -7181 -129258 5000 -893 -16074 12131998 11986666\nD 3 -2500 5319 95742 7500 1607 28926 12131998 12256666\nD 4 -\n"
    ++ text "L SUBA 0 0\nL SUBB 0 0\nL SUBD 30000 300000\n"
    ++ text "R 480000 200000\n"

example_prints : prints example [] ≡ example_sheet
unfolding opened
example_prints = refl

-- peak: B and D share 300,000 kW by 240 and 300 MW, and the kilowatt that is missing is B's; year round: 70 % of 60 MW, 85 % of 140 MW, and D has the rest
example_generated : (rows 4 (generation example_grid Peak) ≡ 0 ∷ 133334 ∷ 0 ∷ 166666 ∷ []) × (rows 4 (generation example_grid YearRound) ≡ 42000 ∷ 119000 ∷ 0 ∷ 139000 ∷ [])
unfolding opened
example_generated = (refl, refl)

-- A-B, A-C, B-C, and D-C, which is marked
example_counted : rows 4 (background_of example_grid example_runs) ≡ Peak ∷ YearRound ∷ Peak ∷ YearRound ∷ []
unfolding opened
example_counted = refl

example_metres : (rows 4 (wider_metres example_runs Peak) ≡ pos 0 ∷ pos 15000 ∷ pos 2500 ∷ pos 2500 ∷ [])
    × (rows 4 (wider_metres example_runs YearRound) ≡ pos 0 ∷ neg_ℤ (pos 5000) ∷ neg_ℤ (pos 7500) ∷ neg_ℤ (pos 7500) ∷ [])
    × (rows 4 (local_metres example_runs) ≡ pos 0 ∷ pos 0 ∷ pos 0 ∷ pos 30000 ∷ [])
unfolding opened
example_metres = (refl, refl, refl)

-- the tutorial's reference is spread over demand: a node's metres less the mean of all by demand (all as one zone: a third of B's and two thirds of C's), times total demand
abbrev from_demand : Background → (v : ℕ) → ℤ
from_demand b v =
    let m : ℕ → Metres = wider_metres example_runs b in
    pos (total_demand example_grid) *ℤ m v -ℤ weighed_in 4 (λ u. 1) m (node_demand example_grid) 1

-- node B's, over 300,000 kW: 25,000 thirds of a metre in peak, the tutorial's 20/6 + 10/2 = 8.3 km, and 5,000 year round, its 10/6 = 1.7 km
example_spread : (from_demand Peak 1 ≡ pos (25000 * 100000)) × (from_demand YearRound 1 ≡ pos (5000 * 100000))
    × (average_of (from_demand Peak 1) 300000 ≡ pos 8333)
    × (average_of (from_demand YearRound 1) 300000 ≡ pos 1667)
unfolding opened
example_spread = (refl, refl, refl, refl)

-- ---- TUT3_NOPEAK, the tutorial's question: "What happens if the 100MW of peaking generation at Node B closes". It never ran year round, whose flows stay
abbrev closed_peak_base : List ℤ
closed_peak_base =
    base_with (neg_ℤ (pos 56812500000)) (pos 28406250000) (pos 5142031250000) (pos 1136250000) (neg_ℤ (pos 1136250000)) (neg_ℤ (pos 3408750000)) (pos 204545000000)

-- year round has every length, and so TUT1's wider solution; peak has none
abbrev closed_runs : Runs
closed_runs = runs_of year_round_base forward_wider local_run closed_peak_base (replicate 8 (pos 0))

abbrev closed : List ℕ
closed = file_with (stations_with 1 7 []) closed_runs

abbrev closed_grid : Grid
closed_grid = grid_of (study_of closed)

closed_acceptable : Acceptable closed closed_runs []
unfolding opened
closed_acceptable = (judged_pass closed closed_runs []).0 refl

abbrev closed_sheet : List ℕ
closed_sheet =
    text "C 0 12078\n"
    ++ text "G 1 0 0 0 0 12078 217404 2514996 2732400\nG 2 0 0 0 -10000 2078 37404 2514996 2552400\nG 3 -\nG 4 0 0 0 -15000 -2922 -52596 2514996 2462400\n"
    ++ text "D 1 -\nD 2 0 0 0 10000 -2078 -37404 12144070 12106666\nD 3 0 0 0 15000 2922 52596 12144070 12196666\nD 4 -\n"
    ++ text "L SUBA 0 0\nL SUBB 0 0\nL SUBD 30000 300000\n"
    ++ text "R 0 200000\n"

closed_prints : prints closed [] ≡ closed_sheet
unfolding opened
closed_prints = refl

-- in peak nuclear and other plant, 440 MW, share the 300 MW of demand
closed_generated : (total_variable closed_grid Peak ≡ 440000) × (total_demand closed_grid ≡ 300000)
    × (rows 4 (generation closed_grid Peak) ≡ 0 ∷ 95455 ∷ 0 ∷ 204545 ∷ [])
    × (rows 4 (generation closed_grid YearRound) ≡ rows 4 (generation example_grid YearRound))
unfolding opened
closed_generated = (refl, refl, refl, refl)

-- the flow of each unmarked circuit is now the greater year round
closed_counted : rows 4 (background_of closed_grid closed_runs) ≡ replicate 4 YearRound
unfolding opened
closed_counted = refl

closed_metres : (rows 4 (wider_metres closed_runs Peak) ≡ replicate 4 (pos 0))
    × (rows 4 (wider_metres closed_runs YearRound) ≡ pos 0 ∷ neg_ℤ (pos 10000) ∷ neg_ℤ (pos 15000) ∷ neg_ℤ (pos 15000) ∷ [])
unfolding opened
closed_metres = (refl, refl)

-- ---- TUT3_E2 with other plant at A and wind at D: 119 MW of nuclear plant and 210 MW of wind are fixed year round, which is more than 300. Refused as 14
abbrev windy : List ℕ
windy = file_with (stations_with 7 1 peaking) example_runs

windy_refused : (total_fixed (grid_of (study_of windy)) YearRound ≡ 329000) × (judged windy example_runs [] ≡ Err Unscalable) × (prints windy [] ≡ text "refused 14 0 0\n")
unfolding opened
windy_refused = (refl, refl, refl)
