-- Nothing of it is vacuous in edition 2: its case is acceptable, brings in its revenue, and agrees with another solver's proposals for stations divided and listed differently.
use mathlib.Core.Path.{◌≡◌, refl}
use mathlib.Core.List.{[]}
use Prim.Native.Nat.{ℕ, zero, suc, ◌≤◌, ◌<◌}
use native.Mathlib.Omega.{arith}
use lib.ListN.{replicate}
use Rattle.meaning.specs.File.{study_of}
use Rattle.meaning.specs.declared.Form.TheVariants.{TwoBackgrounds}
use Rattle.meaning.specs.declared.Background.{Background}
use Rattle.meaning.specs.declared.Background.TheVariants.{YearRound, Peak}
use Rattle.meaning.specs.declared.Side.TheVariants.{Generation}
use Rattle.meaning.specs.Editions.{Of}
use Rattle.meaning.specs.Grid.{grid_of}
use Rattle.meaning.specs.Outcome.{sheet_of}
use Rattle.meaning.specs.Read.{line_at}
use Rattle.meaning.specs.Conditions.{Acceptable}
use Rattle.meaning.specs.Distances.{apart, shown_in, OfNode}
use Rattle.meaning.specs.Demands.{Recovered, SameButStations, Agree, IsWritten, Balances}
use Rattle.meaning.proofs.Both.{both, both_runs, both_sheet}
use Rattle.meaning.proofs.Opened.{opened}
use Rattle.meaning.proofs.Judged.{judged_pass}
use Rattle.claims.proofs.InstanceHolds.{capacity_at_lem}
use Rattle.claims.proofs.Theorems.{accepted_exactly_when, revenue_recovered, centre_balances, solvers_agree}
use Rattle.claims.proofs.InstanceBoth.{other_runs, other}

both_acceptable : Acceptable both both_runs []
unfolding opened
both_acceptable = (judged_pass both both_runs []).0 refl

both_sheet_lem : sheet_of both both_runs [] ≡ both_sheet
unfolding opened
both_sheet_lem = refl

both_written : IsWritten both both_runs [] (replicate 300 7)
both_written = (accepted_exactly_when both both_runs [] (replicate 300 7)).accepted.1 (both_acceptable, rw both_sheet_lem (omega arith))

both_recovered : Recovered (grid_of (study_of both)) [] both_sheet
both_recovered = rw both_sheet_lem at (revenue_recovered both both_runs [] both_acceptable)

-- the edition has both backgrounds
has_both : (b : Background) → Of b (study_of both).settings.edition
unfolding opened
has_both YearRound = tt
has_both Peak = tt

both_balances : (b : Background) → Balances (grid_of (study_of both)) both_runs b
both_balances b = centre_balances both both_runs [] both_acceptable b (has_both b)

other_acceptable : Acceptable other other_runs []
unfolding opened
other_acceptable = (judged_pass other other_runs []).0 refl

same : SameButStations (study_of both) (study_of other)
unfolding opened
same = record { settings = refl; nodes = refl; circuits = refl; capacity = capacity_at_lem (study_of both) (study_of other) 3 refl }

both_agree : Agree (study_of both) both_runs other_runs [] (sheet_of both both_runs []) (sheet_of other other_runs [])
both_agree = solvers_agree both other both_runs other_runs [] both_acceptable other_acceptable same

-- line 2 of both, `G 2`, is of a zone whose TEC is all at NODB: it shows that node's distance in each background
three : (P : ℕ → Type 0) → P 0 → P 1 → P 2 → (v : ℕ) → v < 3 → P v
three P p q r zero h = p
three P p q r (suc zero) h = q
three P p q r (suc (suc zero)) h = r
three P p q r (suc (suc (suc v))) h = absurd (omega arith)

at_b : OfNode (grid_of (study_of both)) Generation 1 (line_at 2 (sheet_of both both_runs []))
unfolding opened
at_b = record { zonal = refl; some = omega arith; others = three _ (λ d. refl) (λ d. absurd (d refl)) (λ d. refl) }

at_b_other : OfNode (grid_of (study_of both)) Generation 1 (line_at 2 (sheet_of other other_runs []))
unfolding opened
at_b_other = record { zonal = refl; some = omega arith; others = three _ (λ d. refl) (λ d. absurd (d refl)) (λ d. refl) }

zone_lines_near : (b : Background) → apart (shown_in TwoBackgrounds b (line_at 2 (sheet_of both both_runs []))) (shown_in TwoBackgrounds b (line_at 2 (sheet_of other other_runs []))) ≤ 1
unfolding opened
zone_lines_near b = both_agree.distances.zone_lines b (has_both b) Generation 1 2 2 (omega arith) at_b at_b_other
