-- The tutorial's Exercise 1, "does more generation change nodal costs?", answered by request 12 of 02: 5 MW more at B leave every direction and so every distance; so do 200 in place of 150, which turn A-B both. And TUT1 with all else changed.
use mathlib.Core.Path.{◌≡◌, refl}
use mathlib.Core.Logic.{◌≢◌}
use mathlib.Core.List.{List, [], ◌∷◌, ◌++◌}
use Prim.Native.Nat.{ℕ, ◌≤◌, ◌<◌}
use native.Mathlib.Omega.{arith}
use lib.IntN.{pos, neg_ℤ}
use Rattle.meaning.specs.declared.Background.TheVariants.{YearRound}
use Rattle.meaning.specs.declared.System.TheVariants.{Wider}
use Rattle.meaning.specs.Text.{text}
use Rattle.meaning.specs.Rows.{rows}
use Rattle.meaning.specs.Study.{Metres, Runs}
use Rattle.meaning.specs.File.{study_of}
use Rattle.meaning.specs.declared.Side.TheVariants.{Generation}
use Rattle.meaning.specs.Grid.{grid_of}
use Rattle.meaning.specs.Figures.{wider_metres, local_metres}
use Rattle.meaning.specs.Outcome.{sheet_of}
use Rattle.meaning.specs.Read.{line_at}
use Rattle.meaning.specs.Distances.{apart, shown_metres, OfOneName, OfNode, DistancesWithin}
use Rattle.meaning.specs.OnlyDirections.{Asked, same_circuits, same_names, same_factors, same_reference, same_directions, BothFirst, Holds}
use Rattle.meaning.proofs.Opened.{opened}
use Rattle.claims.proofs.Tarn.{four}
use Rattle.tutorial.proofs.Cases.{tut, tut_runs, tut_acceptable, five, five_runs, five_acceptable, turned, turned_runs, turned_acceptable, further, further_runs, further_acceptable, other, other_runs, other_acceptable, fed, fed_runs, fed_acceptable}
use Rattle.claims.proofs.Theorems.{only_directions_count, own_directions_count}

-- ---- TUT1 and TUT1_P5
tut_five : (a : Asked) → Holds a (study_of tut) (study_of five) tut_runs five_runs
unfolding opened
tut_five same_circuits = refl
tut_five same_names = refl
tut_five same_factors = refl
tut_five same_reference = refl
tut_five same_directions = four _ (λ h. refl) (λ h. refl) (λ h. refl) (λ h. refl)

tut_five_first : BothFirst (study_of tut) (study_of five)
unfolding opened
tut_five_first = (refl, refl)

five_within : DistancesWithin 1 (grid_of (study_of tut)) (grid_of (study_of five)) tut_runs five_runs [] [] (sheet_of tut tut_runs []) (sheet_of five five_runs [])
five_within = only_directions_count tut five tut_runs five_runs [] [] tut_acceptable five_acceptable tut_five_first tut_five

-- ---- TUT1_P150 and TUT1_P200
turned_further : (a : Asked) → Holds a (study_of turned) (study_of further) turned_runs further_runs
unfolding opened
turned_further same_circuits = refl
turned_further same_names = refl
turned_further same_factors = refl
turned_further same_reference = refl
turned_further same_directions = four _ (λ h. refl) (λ h. refl) (λ h. refl) (λ h. refl)

turned_further_first : BothFirst (study_of turned) (study_of further)
unfolding opened
turned_further_first = (refl, refl)

further_within : DistancesWithin 1 (grid_of (study_of turned)) (grid_of (study_of further)) turned_runs further_runs [] [] (sheet_of turned turned_runs []) (sheet_of further further_runs [])
further_within = only_directions_count turned further turned_runs further_runs [] [] turned_acceptable further_acceptable turned_further_first turned_further

-- ---- TUT1 and TUT1_OTHER: other demand, TEC, stations, zones, money and solver
tut_other : (a : Asked) → Holds a (study_of tut) (study_of other) tut_runs other_runs
unfolding opened
tut_other same_circuits = refl
tut_other same_names = refl
tut_other same_factors = refl
tut_other same_reference = refl
tut_other same_directions = four _ (λ h. refl) (λ h. refl) (λ h. refl) (λ h. refl)

tut_other_first : BothFirst (study_of tut) (study_of other)
unfolding opened
tut_other_first = (refl, refl)

other_within : DistancesWithin 1 (grid_of (study_of tut)) (grid_of (study_of other)) tut_runs other_runs [] [] (sheet_of tut tut_runs []) (sheet_of other other_runs [])
other_within = only_directions_count tut other tut_runs other_runs [] [] tut_acceptable other_acceptable tut_other_first tut_other

-- ---- TUT1 and TUT1 with D fed from C: the marked circuit turned, and no wider distance moved; D's local distance moved 60 km
tut_fed : (a : Asked) → a ≢ same_directions → Holds a (study_of tut) (study_of fed) tut_runs fed_runs
unfolding opened
tut_fed same_circuits n = refl
tut_fed same_names n = refl
tut_fed same_factors n = refl
tut_fed same_reference n = refl
tut_fed same_directions n = absurd (n refl)

fed_wider : (v : ℕ) → v < 4 → apart (wider_metres tut_runs YearRound v) (wider_metres fed_runs YearRound v) ≤ 1
unfolding opened
fed_wider =
    own_directions_count tut fed tut_runs fed_runs [] [] tut_acceptable fed_acceptable (refl, refl) tut_fed (Wider YearRound) tt tt
    (four _ (λ p. refl) (λ p. refl) (λ p. refl) (λ p. absurd (marked p.1)))
  where
    marked : ◌≡◌ {A = ℕ} 1 0 → ⊥
    marked e = omega arith

fed_local : apart (local_metres tut_runs 3) (local_metres fed_runs 3) ≡ 60000
unfolding opened
fed_local = refl

-- ---- the distances that the tutorial prints, in metres: the same before and after, and in TUT1_OTHER
abbrev wider : Runs → List Metres
wider runs = rows 4 (wider_metres runs YearRound)

abbrev forward : List Metres
forward = pos 0 ∷ neg_ℤ (pos 10000) ∷ neg_ℤ (pos 15000) ∷ neg_ℤ (pos 15000) ∷ []

abbrev backward : List Metres
backward = pos 0 ∷ pos 10000 ∷ neg_ℤ (pos 5000) ∷ neg_ℤ (pos 5000) ∷ []

printed_distances : (wider tut_runs ≡ forward) × (wider five_runs ≡ forward) × (wider other_runs ≡ forward) × (wider turned_runs ≡ backward) × (wider further_runs ≡ backward)
unfolding opened
printed_distances = (refl, refl, refl, refl, refl)

-- ---- the sheets, as the program prints them: what is promised of distances holds in their bytes
abbrev tut_sheet : List ℕ
tut_sheet =
    text "C 11786\n"
    ++ text "G 1 0 11786 212148 2094852 2307000\nG 2 -10000 1786 32148 2094852 2127000\nG 3 -\nG 4 -15000 -3214 -57852 2094852 2037000\n"
    ++ text "D 1 -\nD 2 10000 -1786 -32148 12138814 12106666\nD 3 15000 3214 57852 12138814 12196666\nD 4 -\n"
    ++ text "L SUBA 0 0\nL SUBB 0 0\nL SUBD 30000 300000\n"
    ++ text "R 0 200000\n"

abbrev five_sheet : List ℕ
five_sheet =
    text "C 11774\n"
    ++ text "G 1 0 11774 211932 2077489 2289421\nG 2 -10000 1774 31932 2077489 2109421\nG 3 -\nG 4 -15000 -3226 -58068 2077489 2019421\n"
    ++ text "D 1 -\nD 2 10000 -1774 -31932 12138598 12106666\nD 3 15000 3226 58068 12138598 12196666\nD 4 -\n"
    ++ text "L SUBA 0 0\nL SUBB 0 0\nL SUBD 30000 300000\n"
    ++ text "R 295000 200000\n"

abbrev other_sheet : List ℕ
other_sheet =
    text "C 11200\n"
    ++ text "G 1 -4000 7200 187200 9760800 9948000\nG 2 -15000 -3800 -98800 9760800 9662000\n"
    ++ text "D 1 -\nD 2 14744 3544 92144 8657689 8749833\nD 3 15000 3800 98800 8657689 8756489\n"
    ++ text "L SUBA 0 0\nL SUBB 0 0\nL SUBD 30000 468000\n"
    ++ text "R 0 240000\n"

tut_sheet_lem : sheet_of tut tut_runs [] ≡ tut_sheet
unfolding opened
tut_sheet_lem = refl

five_sheet_lem : sheet_of five five_runs [] ≡ five_sheet
unfolding opened
five_sheet_lem = refl

other_sheet_lem : sheet_of other other_runs [] ≡ other_sheet
unfolding opened
other_sheet_lem = refl

five_shown : DistancesWithin 1 (grid_of (study_of tut)) (grid_of (study_of five)) tut_runs five_runs [] [] tut_sheet five_sheet
five_shown = rw (tut_sheet_lem, five_sheet_lem) at five_within

other_shown : DistancesWithin 1 (grid_of (study_of tut)) (grid_of (study_of other)) tut_runs other_runs [] [] tut_sheet other_sheet
other_shown = rw (tut_sheet_lem, other_sheet_lem) at other_within

-- line 2 of both, `G 2`, is of a zone whose TEC is all at B
at_b : OfNode (grid_of (study_of tut)) Generation 1 (line_at 2 tut_sheet)
unfolding opened
at_b = record { zonal = refl; some = omega arith; others = four _ (λ d. refl) (λ d. absurd (d refl)) (λ d. refl) (λ d. refl) }

at_b_five : OfNode (grid_of (study_of five)) Generation 1 (line_at 2 five_sheet)
unfolding opened
at_b_five = record { zonal = refl; some = omega arith; others = four _ (λ d. refl) (λ d. absurd (d refl)) (λ d. refl) (λ d. refl) }

zone_lines_near : apart (shown_metres (line_at 2 tut_sheet)) (shown_metres (line_at 2 five_sheet)) ≤ 1
unfolding opened
zone_lines_near = five_shown.zone_lines YearRound tt Generation 1 2 2 (omega arith) at_b at_b_five

-- lines 11 and 8, `L SUBD`, have one name
at_d : OfOneName (line_at 11 tut_sheet) (line_at 8 other_sheet)
unfolding opened
at_d = record { local = refl; local' = refl; name = refl }

local_lines_near : apart (shown_metres (line_at 11 tut_sheet)) (shown_metres (line_at 8 other_sheet)) ≤ 1
local_lines_near = other_shown.local_lines 11 8 at_d
