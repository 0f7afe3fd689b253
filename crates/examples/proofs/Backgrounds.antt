-- 02, request 5: damaged forms of the case of edition 2, and what stops each, in the order in which they are judged.
use mathlib.Core.Path.{◌≡◌, refl}
use mathlib.Core.List.{List, [], ◌∷◌}
use Prim.Native.Nat.{ℕ, ◌*◌}
use lib.IntN.{ℤ, pos}
use lib.ListN.{set}
use Rattle.meaning.specs.declared.Edition.TheVariants.{Second}
use Rattle.meaning.specs.Study.{Station, Study, Runs, runs_of, three_runs}
use Rattle.meaning.specs.declared.Background.TheVariants.{YearRound, Peak}
use Rattle.meaning.specs.declared.System.TheVariants.{Base, Wider}
use Rattle.meaning.specs.Answers.{Judgement}
use Rattle.std.specs.Prelude.{Ok, Err}
use Rattle.meaning.specs.declared.Refusal.TheVariants.{BadFile, BadNumber, Unbalanced, MissesTooHigh, DirectionInDoubt, Unscalable, BackgroundInDoubt}
use Rattle.meaning.specs.Outcome.{judged}
use Rattle.meaning.proofs.Write.{name, file_in}
use Rattle.meaning.proofs.Opened.{opened}
use Rattle.meaning.proofs.Kiln.{node_of, kiln, kiln_base, kiln_wider, kiln_local}
use Rattle.meaning.proofs.Both.{both, both_study, both_settings, both_nodes, both_circuits, both_runs, both_base, both_wider, both_local, both_peak_base, both_peak_wider, plant}

-- 1: edition 1 and edition 3 by their numbers (byte 52); edition 2 in a version 1 file; edition 1 with a run of edition 2, edition 2 without one
not_whole : judged (set both 52 1) both_runs [] ∷ judged (set both 52 3) both_runs [] ∷ judged (file_in 1 both_study both_runs) both_runs []
    ∷ judged kiln (runs_of kiln_base kiln_wider kiln_local kiln_base []) []
    ∷ judged both (three_runs both_base both_wider both_local) []
    ∷ []
    ≡ Err BadFile ∷ Err BadFile ∷ Err BadFile ∷ Err BadFile ∷ Err BadFile ∷ []
unfolding opened
not_whole = refl

-- the case with other stations
abbrev with_stations : List Station → Judgement
with_stations stations =
    let S : Study = record { settings = both_settings; nodes = both_nodes; circuits = both_circuits; stations = stations } in
    judged (file_in 2 S both_runs) both_runs []

-- 14: fixed generation above demand year round; peak's variable TEC a kilowatt too small
unscalable : with_stations (plant "WIND" "NODA" 1 300000 ∷ []) ∷ with_stations (plant "GAS" "NODA" 7 149999 ∷ plant "WIND" "NODB" 1 100000 ∷ []) ∷ []
    ≡ Err Unscalable ∷ Err Unscalable ∷ []
unfolding opened
unscalable = refl

-- the case with other runs
abbrev with_runs : (base wider peak_base peak_wider : List ℤ) → Judgement
with_runs b w pb pw = judged both (runs_of b w both_local pb pw) []

-- 8 to 10 of systems 1 and 4 before 2 and 5: a milliwatt more on A-B in peak, with a wider reference potential of 1; then that potential alone, of peak
in_order : with_runs both_base (set both_wider 2 (pos 1)) (set both_peak_base 3 (pos 20908100001)) both_peak_wider
    ∷ with_runs both_base (set both_wider 2 (pos 1)) both_peak_base (set both_peak_wider 2 (pos 1))
    ∷ with_runs both_base both_wider both_peak_base (set both_peak_wider 2 (pos 1))
    ∷ []
    ≡ Err (Unbalanced (Base Peak) 1) ∷ Err (BadNumber (Wider YearRound) 3) ∷ Err (BadNumber (Wider Peak) 3) ∷ []
unfolding opened
in_order = refl

-- ---- two nodes and a circuit of 10 m, x 1, from A to B, with a mark or without; flows in kW year round and in peak
abbrev pair : (mark demand : ℕ) → List Station → (year_round peak : ℕ) → Judgement
pair mark demand stations y p =
    let S : Study = record {
      settings = record {
        generation_zones = 1;
        demand_zones = 1;
        p = 500;
        constant = 1000;
        wider_factor = 1800;
        local_factor = 1000;
        overhead400 = 1000;
        cable400 = 1000;
        overhead275 = 1000;
        cable275 = 1000;
        overhead132 = 1000;
        cable132 = 1000;
        reference = 2;
        edition = Second;
        revenue = 1;
      };
      nodes = node_of "A" 0 ∷ node_of "B" demand ∷ [];
      circuits = record { first = name "A"; second = name "B"; voltage = 400; x = 1; overhead = 10; cable = 0; local_mark = mark; factor = 0 } ∷ [];
      stations = stations;
    } in
    let none : List ℤ = pos 0 ∷ pos 0 ∷ pos 0 ∷ [] in
    let runs : Runs = runs_of (pos (1000000 * y) ∷ pos 0 ∷ pos (1000000 * y) ∷ []) none none (pos (1000000 * p) ∷ pos 0 ∷ pos (1000000 * p) ∷ []) none in
    judged (file_in 2 S runs) runs []

-- 15: 700 kW of wind year round, none in peak
which_doubt : pair 0 1400 (plant "WIND" "A" 1 1000 ∷ plant "GAS" "B" 7 2000 ∷ []) 700 0 ≡ Err (BackgroundInDoubt 1)
unfolding opened
which_doubt = refl

-- 11: 300 kW of gas in both, so the circuit counts for peak and its flow of system 4 is in doubt
peak_doubt : pair 0 300 (plant "GAS" "A" 7 1400 ∷ []) 300 300 ∷ pair 0 300 (plant "GAS" "A" 7 1400 ∷ []) 301 300 ∷ []
    ≡ Err (DirectionInDoubt Peak 1) ∷ Err (Unbalanced (Base YearRound) 1) ∷ []
unfolding opened
peak_doubt = refl

-- a marked circuit is of year round alone: 11 of system 1, whatever peak's flow
marked_doubt : pair 1 300 (plant "GAS" "A" 7 1400 ∷ []) 300 300 ∷ pair 1 300 (plant "WIND" "A" 1 429 ∷ plant "GAS" "B" 7 300 ∷ []) 300 0 ∷ []
    ≡ Err (DirectionInDoubt YearRound 1) ∷ Err (DirectionInDoubt YearRound 1) ∷ []
unfolding opened
marked_doubt = refl

-- without the mark 300 kW of wind year round and none in peak are peak's, where the circuit is idle: its length stands nowhere, and year round's flow is not judged by 11
idle_in_peak : pair 0 300 (plant "WIND" "A" 1 429 ∷ plant "GAS" "B" 7 300 ∷ []) 300 0 ≡ Ok tt
unfolding opened
idle_in_peak = refl

-- 850 kW of nuclear are fixed year round: 14 for a demand of 700; for one of 850 nothing remains, and no variable TEC is asked for. The length stands in peak's wider solution,
-- which is all zeros here
none_remains : pair 0 700 (plant "NUCLEAR" "A" 2 1000 ∷ plant "OIL" "A" 6 1000 ∷ []) 700 700 ∷ pair 0 850 (plant "NUCLEAR" "A" 2 1000 ∷ plant "OIL" "A" 6 1000 ∷ []) 850 850 ∷ []
    ≡ Err Unscalable ∷ Err (MissesTooHigh (Wider Peak)) ∷ []
unfolding opened
none_remains = refl
