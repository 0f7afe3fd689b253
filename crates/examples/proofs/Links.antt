-- 02, request 1: what the sheet of KILN with an interconnector brings in, and 13 in its place.
use mathlib.Core.Path.{◌≡◌, refl}
use mathlib.Core.List.{List, [], ◌∷◌}
use Prim.Native.Nat.{◌*◌, ◌-◌}
use lib.IntN.{pos}
use lib.ListN.{set}
use Rattle.meaning.specs.Study.{Station, Runs, three_runs}
use Rattle.meaning.specs.File.{study_of}
use Rattle.meaning.specs.declared.Background.TheVariants.{YearRound}
use Rattle.meaning.specs.declared.System.TheVariants.{Base}
use Rattle.meaning.specs.declared.Refusal.TheVariants.{BadTotal, NoChargeableTec, BadNumber}
use Rattle.meaning.specs.Answers.{Judgement}
use Rattle.std.specs.Prelude.{Err}
use Rattle.meaning.specs.Grid.{grid_of}
use Rattle.meaning.specs.Outcome.{judged}
use Rattle.meaning.specs.Read.{printed_income}
use Rattle.meaning.proofs.Write.{file_of}
use Rattle.meaning.proofs.Opened.{opened}
use Rattle.meaning.proofs.Kiln.{station_of, kiln_base, kiln_wider, kiln_local}
use Rattle.meaning.proofs.Links.{link_of, kiln_with, half, half_sheet}

-- read back over the 200,000 kW that pay, and demand's, the sheet brings in 100,000 pounds less its remainders
half_income : printed_income (grid_of (study_of half)) [] half_sheet ≡ pos (100000 * 1000000 - 50000)
unfolding opened
half_income = refl

-- ---- 13 after 7 and before 8: KILN with interconnectors alone, and potential 1 at the reference
abbrev linked : List Station → Judgement
linked stations =
    let runs : Runs = three_runs (set kiln_base 2 (pos 1)) kiln_wider kiln_local in
    judged (file_of (kiln_with stations) runs) runs []

-- too little TEC; enough, all of type 3; the same beside 0 kW that would pay; and beside 1 kW that pays
in_place : linked (link_of "GEN_1" "NODA" 100000 ∷ link_of "GEN_2" "NODB" 49999 ∷ [])
    ∷ linked (link_of "GEN_1" "NODA" 100000 ∷ link_of "GEN_2" "NODB" 50000 ∷ [])
    ∷ linked (link_of "GEN_1" "NODA" 200000 ∷ station_of "GEN_2" "NODB" 0 ∷ [])
    ∷ linked (link_of "GEN_1" "NODA" 200000 ∷ station_of "GEN_2" "NODB" 1 ∷ [])
    ∷ []
    ≡ Err BadTotal ∷ Err NoChargeableTec ∷ Err NoChargeableTec ∷ Err (BadNumber (Base YearRound) 3) ∷ []
unfolding opened
in_place = refl
