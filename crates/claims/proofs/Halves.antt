-- 02, request 2 is not empty: TARN, four nodes in a line with halves below zero in metres, averages and tariffs, its mirror image, where C has one, and the theorems of both. By hand, from HEAD to WEIR:
-- wider potentials of 4.5, 0, -2.5 and -2.5 m are 5, 0, -3 and -3 m; generation zone 1 averages -1.5, so -2, and demand zone 1, with the same nodes and weights, 2; C is (100 x 8,500 + 900 x 1,000) / 3,500,000, 0.5, so 1;
-- metres after C of -1 and 1 at 0.5 a metre are tariffs of -1 and 1; WEIR's local -2.5 m are -3, and its tariff of -1.5 is -2
use mathlib.Core.Path.{◌≡◌, refl}
use mathlib.Core.List.{List, [], ◌∷◌, ◌++◌}
use Prim.Native.Nat.{ℕ, ◌≤◌, ◌<◌}
use lib.IntN.{ℤ, pos, neg_ℤ}
use Rattle.meaning.specs.declared.System.{System}
use Rattle.meaning.specs.declared.System.TheVariants.{Base, Wider, Local}
use Rattle.meaning.specs.Proposal.{potential}
use Rattle.meaning.specs.Text.{text}
use Rattle.meaning.specs.Study.{Study, Runs}
use Rattle.meaning.specs.declared.Background.{Background}
use Rattle.meaning.specs.declared.Background.TheVariants.{YearRound, Peak}
use Rattle.meaning.specs.Editions.{OfDistances}
use Rattle.meaning.specs.File.{study_of}
use Rattle.meaning.specs.declared.Side.{Side}
use Rattle.meaning.specs.declared.Side.TheVariants.{Generation, Demand}
use Rattle.meaning.specs.Grid.{Grid, grid_of}
use Rattle.meaning.specs.Figures.{zones}
use Rattle.meaning.specs.Outcome.{sheet_of, prints}
use Rattle.meaning.specs.Read.{field, read_whole, line_at}
use Rattle.meaning.specs.Mirror.{NegativeHalf, Divides, zonal, WeighAlike, Opposite, LinesAlike, other, Exchanged, MirrorImage, MoneyImage}
use Rattle.meaning.proofs.Write.{file_of}
use Rattle.meaning.proofs.Opened.{opened}
use Rattle.meaning.proofs.Kiln.{station_of}
use Rattle.claims.proofs.Tarn.{study_with, tarn_study, runs_with, tarn_runs, tarn, tarn_acceptable, four}
use Rattle.claims.proofs.Theorems.{zones_mirror, printed_mirror, sides_mirror, money_mirrors}

abbrev tarn_sheet : List ℕ
tarn_sheet =
    text "C 1\n" ++ text "G 1 -2 -1 -1 28 27\n" ++ text "G 2 2 3 2 28 30\n" ++ text "D 1 2 1 1 256 257\n" ++ text "D 2 3 2 1 256 257\n"
    ++ text "L HEAD 0 0\nL MILL 0 0\nL FORD 0 0\nL WEIR -3 -2\n"
    ++ text "R 2000 500\n"

tarn_prints : prints tarn [] ≡ tarn_sheet
unfolding opened
tarn_prints = refl

abbrev tarn_grid : Grid
tarn_grid = grid_of (study_of tarn)

-- MILL and FORD weigh in generation zone 1 as in demand zone 1
alike : WeighAlike tarn_grid 1 1
unfolding opened
alike = four _ refl refl refl refl

tarn_opposite : Opposite tarn_grid tarn_runs [] 1 1
tarn_opposite = zones_mirror tarn_grid tarn_runs [] 1 1 alike

-- generation zone 1 is one of the figures that moved: -3,000 metres times kilowatts over 2,000 kW, which was -1
zone_moved : NegativeHalf (neg_ℤ (pos 3000)) 2000
unfolding opened
zone_moved = record { below = record { lt = tt }; half = refl; was = refl }

zone_divides : Divides tarn_grid tarn_runs [] (neg_ℤ (pos 3000)) 2000 (neg_ℤ (pos 2))
unfolding opened
zone_divides = zonal YearRound Generation 1

-- on the sheet's bytes these are lines 1 and 3, counted from 0
tarn_lines : LinesAlike tarn_grid (line_at 1 (sheet_of tarn tarn_runs [])) (line_at 3 (sheet_of tarn tarn_runs []))
unfolding opened
tarn_lines = record { generation = refl; demand = refl; alike = alike }

tarn_printed : (k : ℕ) → 2 ≤ k → k < 5
    → read_whole (field k (line_at 3 (sheet_of tarn tarn_runs []))) ≡ neg_ℤ (read_whole (field k (line_at 1 (sheet_of tarn tarn_runs []))))
unfolding opened
tarn_printed k = (printed_mirror tarn tarn_runs [] tarn_acceptable).opposite 1 3 k tarn_lines

-- ---- its mirror image: TEC and demand exchanged at each node, p 100 for 900, flows and potentials turned round. C is -0.5, so -1
abbrev turned : List ℤ → List ℤ
turned [] = []
turned (z ∷ zs) = neg_ℤ z ∷ turned zs

abbrev image_study : (mark : ℕ) → Study
image_study mark =
    study_with mark 100 1000 1000 1000 500
    (station_of "S_2" "MILL" 1000 ∷ station_of "S_3" "FORD" 1000 ∷ station_of "S_4" "WEIR" 1500 ∷ [])

abbrev turned_round : Runs → Runs
turned_round runs = λ s. turned (runs s)

abbrev image_runs : Runs
image_runs = turned_round tarn_runs

abbrev image : List ℕ
image = file_of (image_study 1) image_runs

abbrev image_sheet : List ℕ
image_sheet =
    text "C -1\n" ++ text "G 1 2 1 1 255 256\n" ++ text "G 2 3 2 1 255 256\n" ++ text "D 1 -2 -1 -1 28 27\n" ++ text "D 2 2 3 2 28 30\n"
    ++ text "L MILL 0 0\nL FORD 0 0\nL WEIR 3 2\n"
    ++ text "R 1000 1000\n"

image_prints : prints image [] ≡ image_sheet
unfolding opened
image_prints = refl

-- a law of each node on each side
sides : (P : Side → ℕ → Type 0) → ((v : ℕ) → v < 4 → P Generation v) → ((v : ℕ) → v < 4 → P Demand v) → (side : Side) (v : ℕ) → v < 4 → P side v
sides P g d Generation = g
sides P g d Demand = d

-- and in each background
grounds : (P : Background → Side → ℕ → Type 0) → ((side : Side) (v : ℕ) → v < 4 → P YearRound side v) → ((side : Side) (v : ℕ) → v < 4 → P Peak side v)
    → (b : Background) (side : Side) (v : ℕ) → v < 4 → P b side v
grounds P y p YearRound = y
grounds P y p Peak = p

exchanged_with : (mark : ℕ) (wider local : ℤ)
    → Exchanged (grid_of (tarn_study mark)) (grid_of (image_study mark)) (runs_with wider local) (turned_round (runs_with wider local))
unfolding opened
exchanged_with mark wider local = record {
  node_count = refl;
  zone_counts = either;
  zones_of = sides _ (four _ refl refl refl refl) (four _ refl refl refl refl);
  weights = sides _ (four _ refl refl refl refl) (four _ refl refl refl refl);
  payers = sides _ (four _ refl refl refl refl) (four _ refl refl refl refl);
  payers_in = grounds _ (sides _ (four _ refl refl refl refl) (four _ refl refl refl refl)) (sides _ (four _ refl refl refl refl) (four _ refl refl refl refl));
  editions = refl;
  shares = refl;
  constants = refl;
  wider_factors = refl;
  local_factors = refl;
  potentials = turned_in;
}
  where
    either : (side : Side) → zones (grid_of (image_study mark)) side ≡ zones (grid_of (tarn_study mark)) (other side)
    either Generation = refl
    either Demand = refl

    turned_in : (s : System) → OfDistances s → (v : ℕ) → v < 4 → potential (turned_round (runs_with wider local) s) v ≡ neg_ℤ (potential (runs_with wider local s) v)
    turned_in (Base b) d = absurd d
    turned_in (Wider YearRound) d = four _ refl refl refl refl
    turned_in (Wider Peak) d = four _ refl refl refl refl
    turned_in Local d = four _ refl refl refl refl

tarn_image : MirrorImage tarn_grid (grid_of (study_of image)) tarn_runs image_runs []
unfolding opened
tarn_image = sides_mirror tarn_grid (grid_of (study_of image)) tarn_runs image_runs [] (exchanged_with 1 (neg_ℤ (pos 2500000000)) (neg_ℤ (pos 2500000000)))

-- ---- both without the mark, WEIR at -5 m: no local income, and all but the `L` lines is exchanged
abbrev open_runs : Runs
open_runs = runs_with (neg_ℤ (pos 5000000000)) (pos 0)

abbrev open_sheet : List ℕ
open_sheet =
    text "C 1\n" ++ text "G 1 -2 -1 -1 28 27\n" ++ text "G 2 2 3 2 28 30\n" ++ text "D 1 2 1 1 255 256\n" ++ text "D 2 5 4 2 255 257\n"
    ++ text "L HEAD 0 0\nL MILL 0 0\nL FORD 0 0\nL WEIR 0 0\n"
    ++ text "R 1000 2500\n"

open_prints : prints (file_of (tarn_study 0) open_runs) [] ≡ open_sheet
unfolding opened
open_prints = refl

abbrev open_image_sheet : List ℕ
open_image_sheet =
    text "C -1\n" ++ text "G 1 2 1 1 255 256\n" ++ text "G 2 5 4 2 255 257\n" ++ text "D 1 -2 -1 -1 28 27\n" ++ text "D 2 2 3 2 28 30\n"
    ++ text "L MILL 0 0\nL FORD 0 0\nL WEIR 0 0\n"
    ++ text "R 2500 1000\n"

open_image_prints : prints (file_of (image_study 0) (turned_round open_runs)) [] ≡ open_image_sheet
unfolding opened
open_image_prints = refl

open_money : MoneyImage (grid_of (tarn_study 0)) (grid_of (image_study 0)) open_runs (turned_round open_runs) []
unfolding opened
open_money =
    money_mirrors (grid_of (tarn_study 0)) (grid_of (image_study 0)) open_runs (turned_round open_runs) []
    (record { whole = refl; exchanged = exchanged_with 0 (neg_ℤ (pos 5000000000)) (pos 0); revenues = refl; no_local = refl; no_local' = refl })
