-- The demands are not empty: KILN, KILN with its stations divided and listed differently and with another proposal, with an interconnector, with other plant types, and as a file of version 2.
use mathlib.Core.Path.{◌≡◌, refl, sym, ◌∙◌, ap, fun_ext}
use mathlib.Core.Logic.{inl}
use mathlib.Core.List.{List, []}
use Prim.Native.Nat.{ℕ, zero, suc, ◌+◌, ◌≤◌, ◌<◌}
use Prim.Native.String.{String}
use native.Mathlib.Omega.{arith}
use lib.ListN.{get_or, replicate}
use Rattle.meaning.specs.Study.{Study}
use Rattle.meaning.specs.File.{u32, version_of, study_of, runs_in}
use Rattle.meaning.specs.Rows.{rows}
use Rattle.meaning.specs.declared.Background.TheVariants.{YearRound, Peak}
use Rattle.meaning.specs.declared.System.{System}
use Rattle.meaning.specs.declared.System.TheVariants.{Base, Wider, Local}
use Rattle.meaning.specs.declared.Refusal.TheVariants.{Unbalanced, MissesTooHigh}
use Rattle.meaning.specs.declared.Refusal.{Refusal}
use Rattle.meaning.specs.Answers.{refusal, values}
use Rattle.meaning.specs.Refusals.{Stopped}
use Rattle.std.specs.Prelude.{Ok, Err}
use Rattle.meaning.specs.Grid.{grid_of, capacity_of, node_tec}
use Rattle.meaning.specs.Outcome.{judged, sheet_of, settle, prints}
use Rattle.meaning.specs.Conditions.{InRange, Acceptable}
use Rattle.meaning.specs.Demands
use Rattle.meaning.specs.Demands.{IsWritten, IsRefused, Recovered, SameButStations, Parts, Rearranged, exchanged, below, then, StationsRearranged, Agree, PassesToFive, AsIn01, Balances, SameTotals}
use Rattle.meaning.specs.Versions.{SayTheSame}
use Rattle.meaning.proofs.Kiln.{kiln, kiln_runs, kiln_stations, kiln_sheet, kiln_judged, station_of}
use Rattle.meaning.proofs.Links.{half}
use Rattle.meaning.proofs.Opened.{opened}
use Rattle.meaning.proofs.Rows.{rows_at}
use Rattle.meaning.proofs.Whole.{judge_file}
use Rattle.meaning.proofs.Tables.{judge_rows}
use Rattle.meaning.proofs.Judged.{judged_pass}
use Rattle.claims.proofs.Stations.{rearranged}
use Rattle.claims.proofs.Theorems.{accepted_exactly_when, refused_exactly_when, one_answer, revenue_recovered, centre_balances, solvers_agree, stations_hidden, no_interconnector_no_change, types_hidden, one_sheet_in_either_version, new_voltages_in_version_two}
use Rattle.claims.proofs.Instance.{divided, other_runs, other, twin, leaking, retyped, kiln_two, subsea}

-- ---- KILN is acceptable, and settled in either way
kiln_acceptable : Acceptable kiln kiln_runs []
kiln_acceptable = (judged_pass kiln kiln_runs []).0 kiln_judged

kiln_sheet_lem : sheet_of kiln kiln_runs [] ≡ kiln_sheet
unfolding opened
kiln_sheet_lem = refl

kiln_written : IsWritten kiln kiln_runs [] (replicate 117 7)
kiln_written = (accepted_exactly_when kiln kiln_runs [] (replicate 117 7)).accepted.1 (kiln_acceptable, rw kiln_sheet_lem (omega arith))

kiln_short : IsRefused kiln kiln_runs [] (replicate 116 7)
kiln_short = (accepted_exactly_when kiln kiln_runs [] (replicate 116 7)).otherwise (λ t. too_long (rw kiln_sheet_lem at t.1))
  where
    too_long : 117 ≤ 116 → ⊥
    too_long h = omega arith

kiln_recovered : Recovered (grid_of (study_of kiln)) [] kiln_sheet
kiln_recovered = rw kiln_sheet_lem at (revenue_recovered kiln kiln_runs [] kiln_acceptable)

other_judged : judged other other_runs [] ≡ Ok tt
unfolding opened
other_judged = refl

other_acceptable : Acceptable other other_runs []
other_acceptable = (judged_pass other other_runs []).0 other_judged

-- equal tables of capacity say equal capacities
pub capacity_at_lem : (S S' : Study) (n : ℕ)
    → rows n (λ v. rows 7 (λ t. capacity_of S v (suc t))) ≡ rows n (λ v. rows 7 (λ t. capacity_of S' v (suc t)))
    → (v plant_type : ℕ) → v < n → InRange plant_type 1 7 → capacity_of S v plant_type ≡ capacity_of S' v plant_type
capacity_at_lem S S' n e v zero h r = absurd (omega (arith, r.least))
capacity_at_lem S S' n e v (suc t) h r = sym (cell S) ∙ ap (λ (l : List (List ℕ)). get_or (get_or l v []) t 0) e ∙ cell S'
  where
    cell : (X : Study) → get_or (get_or (rows n (λ v. rows 7 (λ t. capacity_of X v (suc t)))) v []) t 0 ≡ capacity_of X v (suc t)
    cell X = ap (λ (l : List ℕ). get_or l t 0) (rows_at [] n _ v h) ∙ rows_at 0 7 _ t (omega (arith, r.most))

same : SameButStations (study_of kiln) (study_of other)
unfolding opened
same = record { settings = refl; nodes = refl; circuits = refl; capacity = capacity_at_lem (study_of kiln) (study_of other) 3 refl }

kilns_agree : Agree (study_of kiln) kiln_runs other_runs [] (sheet_of kiln kiln_runs []) (sheet_of other other_runs [])
kilns_agree = solvers_agree kiln other kiln_runs other_runs [] kiln_acceptable other_acceptable same

twin_acceptable : Acceptable twin kiln_runs []
unfolding opened
twin_acceptable = (judged_pass twin kiln_runs []).0 refl

of_parts : (i j k n : String) (a b c : ℕ) → a ≡ b + c → Parts (station_of i n a) (station_of j n b) (station_of k n c)
of_parts i j k n a b c e = record { first_node = refl; second_node = refl; first_type = refl; second_type = refl; tec = e }

-- GEN_2 is divided, and its first part goes to the front; GEN_1 is divided, its second part again, and the empty part goes to the end
divided_so : Rearranged kiln_stations divided
divided_so =
    then (below (Demands.divided (of_parts "GEN_2" "B_1" "B_2" "NODB" 100000 60000 40000 refl)))
    (then exchanged
    (then (below (Demands.divided (of_parts "GEN_1" "A_1" "A_2" "NODA" 200000 150000 50000 refl)))
    (then (below (below (Demands.divided (of_parts "A_2" "A_2" "A_3" "NODA" 50000 50000 0 refl)))) (below (below (below exchanged))))))

twin_rearranged : StationsRearranged (study_of kiln) (study_of twin)
unfolding opened
twin_rearranged = record { settings = refl; nodes = refl; circuits = refl; stations = divided_so }

one_sheet : sheet_of kiln kiln_runs [] ≡ sheet_of twin kiln_runs []
one_sheet = (solvers_agree kiln twin kiln_runs kiln_runs [] kiln_acceptable twin_acceptable (rearranged twin_rearranged)).sheets refl

passes_five : PassesToFive kiln leaking
unfolding opened
passes_five = (((judge_file kiln leaking).passes.0 refl).0, (judge_rows (study_of kiln)).passes.0 refl)

divided_passes : PassesToFive other leaking
unfolding opened
divided_passes = (((judge_file other leaking).passes.0 refl).0, (judge_rows (study_of other)).passes.0 refl)

kiln_leaks : (settle kiln leaking [] (replicate 5 7)).answer ≡ Err (Unbalanced (Base YearRound) 1)
unfolding opened
kiln_leaks = refl

hidden : (settle other leaking [] (replicate 5 1)).answer ≡ Err (Unbalanced (Base YearRound) 1)
hidden = sym (stations_hidden kiln other leaking [] (replicate 5 7) (replicate 5 1) passes_five divided_passes same refl) ∙ kiln_leaks

-- so 01's order stops it there, at balance and not at a number, a miss or a direction; and a short buffer at 12
leak_stopped : Stopped kiln leaking [] (replicate 5 7) (Unbalanced (Base YearRound) 1)
leak_stopped = (refused_exactly_when kiln leaking [] (replicate 5 7) (Unbalanced (Base YearRound) 1)).exactly.0 kiln_leaks

not_missed : Stopped kiln leaking [] (replicate 5 7) (MissesTooHigh (Base YearRound)) → ⊥
unfolding values refusal
not_missed f = unbalanced≢missed ((one_answer kiln leaking [] (replicate 5 7)).only_one (Unbalanced (Base YearRound) 1) (MissesTooHigh (Base YearRound)) leak_stopped f)
  where
    unbalanced≢missed : Unbalanced (Base YearRound) 1 ≡ MissesTooHigh (Base YearRound) → ⊥
    unbalanced≢missed e = numbers (ap {B = ℕ} (λ (r : Refusal). (values (Err r)).number) e)
      where
        numbers : ◌≡◌ {A = ℕ} (values (Err (Unbalanced (Base YearRound) 1))).number (values (Err (MissesTooHigh (Base YearRound)))).number → ⊥
        numbers h = omega arith

-- ---- 02, request 1: KILN has no interconnector, and is charged as 01 says; with one, the revenue is recovered from those that pay
kiln_without : (v : ℕ) → v < 3 → capacity_of (study_of kiln) v 3 ≡ 0
unfolding opened
kiln_without zero h = refl
kiln_without (suc zero) h = refl
kiln_without (suc (suc zero)) h = refl
kiln_without (suc (suc (suc v))) h = absurd (omega arith)

kiln_as_in_01 : AsIn01 (study_of kiln) kiln_runs
unfolding opened
kiln_as_in_01 = no_interconnector_no_change (study_of kiln) kiln_runs refl kiln_without

half_acceptable : Acceptable half kiln_runs []
unfolding opened
half_acceptable = (judged_pass half kiln_runs []).0 refl

half_recovered : Recovered (grid_of (study_of half)) [] (sheet_of half kiln_runs [])
half_recovered = revenue_recovered half kiln_runs [] half_acceptable

half_balances : Balances (grid_of (study_of half)) kiln_runs YearRound
half_balances = centre_balances half kiln_runs [] half_acceptable YearRound tt

retyped_totals : SameTotals (study_of kiln) (study_of retyped)
unfolding opened
retyped_totals = record { edition = refl; settings = refl; nodes = refl; circuits = refl; tec = tec; interconnectors = none }
  where
    tec : (v : ℕ) → v < 3 → node_tec (grid_of (study_of kiln)) v ≡ node_tec (grid_of (study_of retyped)) v
    tec zero h = refl
    tec (suc zero) h = refl
    tec (suc (suc zero)) h = refl
    tec (suc (suc (suc v))) h = absurd (omega arith)

    none : (v : ℕ) → v < 3 → capacity_of (study_of kiln) v 3 ≡ capacity_of (study_of retyped) v 3
    none zero h = refl
    none (suc zero) h = refl
    none (suc (suc zero)) h = refl
    none (suc (suc (suc v))) h = absurd (omega arith)

retyped_sheet : sheet_of kiln kiln_runs [] ≡ sheet_of retyped kiln_runs []
retyped_sheet = (types_hidden kiln retyped kiln_runs retyped_totals).sheets []

two_judged : judged kiln_two kiln_runs [] ≡ Ok tt
unfolding opened
two_judged = refl

-- of each system
by_each : (P : System → Type 0) → P (Base YearRound) → P (Wider YearRound) → P Local → P (Base Peak) → P (Wider Peak) → (s : System) → P s
by_each P b w l pb pw (Base YearRound) = b
by_each P b w l pb pw (Wider YearRound) = w
by_each P b w l pb pw Local = l
by_each P b w l pb pw (Base Peak) = pb
by_each P b w l pb pw (Wider Peak) = pw

own_runs : (runs_in kiln ≡ kiln_runs) × (runs_in kiln_two ≡ kiln_runs)
unfolding opened
own_runs = (fun_ext (by_each _ refl refl refl refl refl), fun_ext (by_each _ refl refl refl refl refl))

say_the_same : SayTheSame kiln kiln_two
unfolding opened
say_the_same = record {
  whole = rw own_runs.0 kiln_acceptable.whole;
  other_whole = rw own_runs.1 ((judged_pass kiln_two kiln_runs []).0 two_judged).whole;
  settings = refl;
  nodes = refl;
  circuits = refl;
  stations = refl;
}

two_versions : (version_of kiln ≡ 1) × (version_of kiln_two ≡ 2) × (settle kiln kiln_runs [] (replicate 200 7) ≡ settle kiln_two kiln_runs [] (replicate 200 7)) × (prints kiln [] ≡ prints kiln_two [])
unfolding version_of u32
two_versions =
    let one = one_sheet_in_either_version kiln kiln_two say_the_same in
    (refl, refl, one.settled kiln_runs [] (replicate 200 7), one.printed (own_runs.0 ∙ sym own_runs.1) [])

subsea_judged : judged subsea kiln_runs [] ≡ Ok tt
unfolding opened
subsea_judged = refl

subsea_version : version_of subsea ≡ 2
unfolding opened
subsea_version = new_voltages_in_version_two subsea kiln_runs [] ((judged_pass subsea kiln_runs []).0 subsea_judged) 2 (omega arith) (inl refl)
