-- TUT3_SHARE: the tutorial's two-background case with a share file of our own (the tutorial has no figures for one). A lies behind B, and B behind D, the centre.
-- Behind A's boundary, 5,000 m, all TEC is low carbon: nothing of it is shared. Behind B's, 2,500 m, 200 of 300 MW are: two thirds, 1,666 m. By load factors of 385 and 763 thousandths of A's wind and B's nuclear plant,
-- and 3 of its peaking plant, 23,100 kW pay A's shared tariff and 107,120 kW B's. Computed here.
use mathlib.Core.Path.{◌≡◌, refl}
use mathlib.Core.List.{List, [], ◌∷◌, ◌++◌}
use mathlib.Core.Bool.{true}
use Prim.Native.Nat.{ℕ, suc}
use lib.IntN.{pos, neg_ℤ}
use Rattle.meaning.specs.Text.{text}
use Rattle.meaning.specs.Rows.{rows}
use Rattle.std.specs.Prelude.{Err}
use Rattle.meaning.specs.declared.Refusal.TheVariants.{BadShare}
use Rattle.meaning.specs.declared.Side.TheVariants.{Generation}
use Rattle.meaning.specs.declared.Background.TheVariants.{YearRound}
use Rattle.meaning.specs.Sharing.{shared_kw, in_force}
use Rattle.meaning.specs.Figures.{sharing, own_metres, shared_of}
use Rattle.meaning.specs.File.{study_of}
use Rattle.meaning.specs.Outcome.{judged, sheet_of, prints}
use Rattle.meaning.specs.Conditions.{Acceptable}
use Rattle.meaning.specs.Demands.{Recovered}
use Rattle.meaning.specs.Shares.{OneCentre}
use Rattle.meaning.proofs.Write.{u32s}
use Rattle.meaning.proofs.Opened.{opened}
use Rattle.meaning.proofs.Judged.{judged_pass}
use Rattle.claims.proofs.Theorems.{revenue_recovered, chains_end_at_one_centre}
use Rattle.tutorial.proofs.Backgrounds.{example, example_runs, example_grid, example_sheet}

-- the next zone inward of each zone, and seven load factors
abbrev share_with : (a b c d : ℕ) → List ℕ
share_with a b c d = u32s (a ∷ b ∷ c ∷ d ∷ 385 ∷ 763 ∷ 0 ∷ 424 ∷ 107 ∷ 3 ∷ 486 ∷ [])

abbrev share : List ℕ
share = share_with 2 4 0 0

shared_acceptable : Acceptable example example_runs share
unfolding opened
shared_acceptable = (judged_pass example example_runs share).0 refl

abbrev shared_sheet : List ℕ
shared_sheet =
    text "C -7819 5893\n"
    ++ text "G 1 0 -7819 -140742 -1666 4227 76086 1666 29988 2102079 2037423\nG 2 15000 7181 129258 -6666 -773 -13914 1666 29988 2102079 2217423\nG 3 -\n"
    ++ text "G 4 2500 -5319 -95742 -7500 -1607 -28926 0 0 2102079 1977411\n"
    ++ text "D 1 -\nD 2 -15000 -7181 -129258 5000 -893 -16074 12131998 11986666\nD 3 -2500 5319 95742 7500 1607 28926 12131998 12256666\nD 4 -\n"
    ++ text "L SUBA 0 0\nL SUBB 0 0\nL SUBD 30000 300000\n"
    ++ text "R 242640 200000\n"

shared_prints : prints example share ≡ shared_sheet
unfolding opened
shared_prints = refl

-- shared and not-shared metres, and the kilowatts of the shared tariff
shared_parts : (rows 4 (λ k. shared_of example_grid example_runs share Generation (suc k)) ≡ pos 1666 ∷ pos 1666 ∷ pos 0 ∷ pos 0 ∷ [])
    × (rows 4 (λ k. own_metres example_grid example_runs share YearRound Generation (suc k)) ≡ neg_ℤ (pos 1666) ∷ neg_ℤ (pos 6666) ∷ pos 0 ∷ neg_ℤ (pos 7500) ∷ [])
    × (rows 4 (λ k. shared_kw (sharing example_grid share) (suc k)) ≡ 23100 ∷ 107120 ∷ 0 ∷ 145800 ∷ [])
unfolding opened
shared_parts = (refl, refl, refl)

sheet_is : sheet_of example example_runs share ≡ shared_sheet
unfolding opened
sheet_is = refl

in_force_lem : in_force (study_of example).settings.edition share ≡ true
unfolding opened
in_force_lem = refl

-- the theorems, of it: it is accepted, brings in its revenue, and has one centre
shared_recovered : Recovered example_grid share shared_sheet
shared_recovered = rw sheet_is at (revenue_recovered example example_runs share shared_acceptable)

shared_centre : OneCentre example_grid share
shared_centre = chains_end_at_one_centre example example_runs share shared_acceptable in_force_lem

-- without the file, and with an empty one, the sheet is as before; A and D both as centres are refused at D, and C's zone, which has no TEC, may not be named
without : (prints example [] ≡ example_sheet) × (judged example example_runs (share_with 2 0 0 0) ≡ Err (BadShare 4)) × (judged example example_runs (share_with 3 4 0 0) ≡ Err (BadShare 1))
    × (prints example (1 ∷ []) ≡ text "refused 16 0 0\n")
unfolding opened
without = (refl, refl, refl, refl)
