-- Two small cases on the edges of 01's bands, sums, lengths and ranges: PAIR, two nodes and a circuit, and ALONE, one node.
use mathlib.Core.Path.{◌≡◌, refl}
use mathlib.Core.List.{List, [], ◌∷◌, ◌++◌}
use mathlib.Core.Bool.{true, false}
use Prim.Native.Nat.{ℕ, suc, ◌+◌, ◌*◌}
use Prim.Native.String.{String}
use lib.IntN.{ℤ, pos, neg_ℤ}
use lib.ListN.{replicate}
use Rattle.meaning.specs.declared.Edition.TheVariants.{First}
use Rattle.meaning.specs.Rows.{rows}
use Rattle.meaning.specs.Text.{text}
use Rattle.meaning.specs.Study.{Circuit, Study, Runs, three_runs}
use Rattle.meaning.specs.declared.Background.TheVariants.{YearRound, Peak}
use Rattle.meaning.specs.declared.System.{System}
use Rattle.meaning.specs.declared.System.TheVariants.{Base, Wider, Local}
use Rattle.meaning.specs.declared.Refusal.TheVariants.{BadNumber, Unbalanced, MissesTooHigh, DirectionInDoubt}
use Rattle.meaning.specs.Answers.{Judgement}
use Rattle.std.specs.Prelude.{Ok, Err}
use Rattle.meaning.specs.Grid.{plant_of, pays, pays_in, grid_of}
use Rattle.meaning.specs.Network.{network_of}
use Rattle.meaning.specs.Proposal.{range_stage}
use Rattle.meaning.specs.Systems.{length_of, proposed, proposals_stage}
use Rattle.meaning.specs.Outcome.{Settled, settle, written, refused}
use Rattle.meaning.proofs.Write.{name, file_of}
use Rattle.meaning.proofs.Opened.{opened}
use Rattle.meaning.proofs.Kiln.{node_of, station_of}

-- a buffer of 100 bytes before, and a study settled in it
abbrev before : List ℕ
before = replicate 100 7

abbrev settled : Study → Runs → Settled
settled S runs = settle (file_of S runs) runs [] before

-- ---- PAIR: two nodes, one circuit of 10 m and x 1, k kW from A to B; the base misses by m
abbrev pair_of : (k : ℕ) → Circuit → Study
pair_of k circuit =
    record {
      settings = record {
        generation_zones = 2;
        demand_zones = 1;
        p = 270;
        constant = 1007;
        wider_factor = 1800;
        local_factor = 1000;
        overhead400 = 1000;
        cable400 = 2000;
        overhead275 = 3000;
        cable275 = 4000;
        overhead132 = 5000;
        cable132 = 7000;
        reference = 2;
        edition = First;
        revenue = 1;
      };
      nodes = node_of "A" 0 ∷ node_of "B" k ∷ [];
      circuits = circuit ∷ [];
      stations = station_of "S" "A" k ∷ [];
    }

abbrev pair_study : (k mark : ℕ) → Study
pair_study k mark = pair_of k (record { first = name "A"; second = name "B"; voltage = 400; x = 1; overhead = 10; cable = 0; local_mark = mark; factor = 0 })

abbrev pair : (k m : ℕ) → (potential : ℤ) → Settled
pair k m potential =
    settled (pair_study k 0)
    (three_runs
    (pos (1000000 * k + m) ∷ pos 0 ∷ pos (1000000 * k) ∷ [])
    (potential ∷ pos 0 ∷ pos 0 ∷ [])
    (pos 0 ∷ pos 0 ∷ pos 0 ∷ []))

-- 10: "Misses summing to 100,000,000 pass; one more is 10."
passing : pair 200 100000000 (pos 0) ≡ written (text "C 0\nG 1 0 0 0 3650 3650\nG 2 -\nD 1 0 0 0 1350 1350\nL A 0 0\nR 0 0\n") before
unfolding opened
passing = refl

missed : pair 200 100000001 (pos 0) ≡ refused (MissesTooHigh (Base YearRound)) before
unfolding opened
missed = refl

-- 11: 200 kW is idle, 201 and 400 kW are in doubt, 401 kW is directed: its 10 m stand in the wider solution
doubt : pair 201 0 (pos 0) ≡ refused (DirectionInDoubt YearRound 1) before
unfolding opened
doubt = refl

doubt₄₀₀ : pair 400 0 (pos 0) ≡ refused (DirectionInDoubt YearRound 1) before
unfolding opened
doubt₄₀₀ = refl

-- 11 after 10 of the base, and before 8 of the wider system
missed_first : pair 201 100000001 (pos 10000000000000001) ≡ refused (MissesTooHigh (Base YearRound)) before
unfolding opened
missed_first = refl

doubt_first : pair 201 0 (pos 10000000000000001) ≡ refused (DirectionInDoubt YearRound 1) before
unfolding opened
doubt_first = refl

-- 8 and 9 of the base before 11; 11 before 9 and 10 of the wider system, and before 8, 9 and 10 of the local one. The base flow of 201 kW is in doubt throughout
abbrev doubted : (base wider local : List ℤ) → Judgement
doubted b w l = proposals_stage (grid_of (pair_study 201 0)) (three_runs b w l)

abbrev of_base : (base : List ℤ) → Judgement
of_base b = doubted b (pos 0 ∷ pos 0 ∷ pos 0 ∷ []) (pos 0 ∷ pos 0 ∷ pos 0 ∷ [])

abbrev base₂₀₁ : List ℤ
base₂₀₁ = pos 201000000 ∷ pos 0 ∷ pos 201000000 ∷ []

beside_eleven : of_base (pos 201000000 ∷ pos 1 ∷ pos 201000000 ∷ []) ∷ of_base (pos 300000000 ∷ pos 0 ∷ pos 300000000 ∷ []) ∷ of_base base₂₀₁ ∷ []
    ≡ Err (BadNumber (Base YearRound) 2) ∷ Err (Unbalanced (Base YearRound) 1) ∷ Err (DirectionInDoubt YearRound 1) ∷ []
unfolding opened
beside_eleven = refl

eleven_first : doubted base₂₀₁ (pos 0 ∷ pos 0 ∷ pos 1 ∷ []) (pos 0 ∷ pos 0 ∷ pos 0 ∷ [])
    ∷ doubted base₂₀₁ (pos 200000000 ∷ pos 0 ∷ pos 0 ∷ []) (pos 0 ∷ pos 0 ∷ pos 0 ∷ [])
    ∷ doubted base₂₀₁ (pos 0 ∷ pos 0 ∷ pos 0 ∷ []) (pos 0 ∷ pos 1 ∷ pos 0 ∷ [])
    ∷ doubted base₂₀₁ (pos 0 ∷ pos 0 ∷ pos 0 ∷ []) (pos 0 ∷ pos 0 ∷ pos 1 ∷ [])
    ∷ doubted base₂₀₁ (pos 0 ∷ pos 0 ∷ pos 0 ∷ []) (pos 200000000 ∷ pos 0 ∷ pos 0 ∷ [])
    ∷ []
    ≡ replicate 5 (Err (DirectionInDoubt YearRound 1))
unfolding opened
eleven_first = refl

directed : pair 401 0 (pos 10000000000) ≡ written (text "C -3\nG 1 10 7 127 1693 1820\nG 2 -\nD 1 0 3 54 619 673\nL A 0 0\nR 180 127\n") before
unfolding opened
directed = refl

-- the same circuit with a local mark: its 10 m stand in the local solution, and pay a local tariff. By hand: 10 x 1,007 x 1,000 / 100,000 is 100.7, so 101;
-- 730,000 less 101 x 401 is 689,499, which is 1,719 x 401 + 180; and 270,000 is 673 x 401 + 127
local_mark_lem : settled (pair_study 401 1)
    (three_runs
    (pos 401000000 ∷ pos 0 ∷ pos 401000000 ∷ [])
    (pos 0 ∷ pos 0 ∷ pos 0 ∷ [])
    (pos 10000000000 ∷ pos 0 ∷ pos 0 ∷ []))
    ≡ written (text "C 0\nG 1 0 0 0 1719 1719\nG 2 -\nD 1 0 0 0 673 673\nL A 10 101\nR 180 127\n") before
unfolding opened
local_mark_lem = refl

-- 4: lengths by voltage, and the sign of a flow that runs backward: 1 m overhead and 10 m of cable, from A to B and from B to A
abbrev length_at : (voltage : ℕ) → (first second : String) → (flow : ℤ) → ℤ
length_at voltage first second z =
    let S = pair_of 401 (record { first = name first; second = name second; voltage = voltage; x = 1; overhead = 1; cable = 10; local_mark = 0; factor = 0 }) in
    length_of (grid_of S) (three_runs (pos 401000000 ∷ pos 0 ∷ z ∷ []) [] []) 0

lengths : length_at 400 "A" "B" (pos 401000000) ∷ length_at 275 "A" "B" (pos 401000000) ∷ length_at 132 "A" "B" (pos 401000000) ∷ []
    ≡ pos 21000000000 ∷ pos 43000000000 ∷ pos 75000000000 ∷ []
unfolding opened
lengths = refl

backward : length_at 275 "B" "A" (neg_ℤ (pos 401000000)) ≡ neg_ℤ (pos 43000000000)
unfolding opened
backward = refl

-- 8: potentials up to 2 x 10^18 in the base system, up to 10^16 in the others, flows up to 10^14: 10 is judged after them; one more, on either side, is 8
abbrev numbers : System → (potential flow : ℤ) → Judgement
numbers system potential flow =
    let run : List ℤ = potential ∷ pos 0 ∷ flow ∷ [] in
    range_stage (network_of (grid_of (pair_study 200 0))) (proposed (grid_of (pair_study 200 0)) (λ s. run) system)

at_limits : numbers (Base YearRound) (pos 2000000000000000000) (neg_ℤ (pos 100000000000000))
    ∷ numbers (Wider YearRound) (neg_ℤ (pos 10000000000000000)) (pos 100000000000000)
    ∷ numbers Local (pos 10000000000000000) (neg_ℤ (pos 100000000000000))
    ∷ []
    ≡ (Ok tt) ∷ (Ok tt) ∷ (Ok tt) ∷ []
unfolding opened
at_limits = refl

past_limits : numbers (Base YearRound) (neg_ℤ (pos 2000000000000000001)) (pos 0) ∷ numbers (Wider YearRound) (pos 10000000000000001) (pos 0) ∷ numbers Local (pos 0) (neg_ℤ (pos 100000000000001)) ∷ []
    ≡ Err (BadNumber (Base YearRound) 1) ∷ Err (BadNumber (Wider YearRound) 1) ∷ Err (BadNumber Local 3) ∷ []
unfolding opened
past_limits = refl

-- plant types 1 to 7: all but type 3 pay, and at peak all but these and type 1
plants : rows 7 (λ t. pays (plant_of (suc t))) ++ rows 7 (λ t. pays_in Peak (plant_of (suc t))) ≡ true ∷ true ∷ false ∷ (replicate 4 true ++ (false ∷ true ∷ false ∷ replicate 4 true))
unfolding opened
plants = refl

-- ---- ALONE: "One node and no circuits may pass."
abbrev alone_study : Study
alone_study =
    record {
      settings = record {
        generation_zones = 1;
        demand_zones = 1;
        p = 0;
        constant = 1;
        wider_factor = 1000;
        local_factor = 1000;
        overhead400 = 1000;
        cable400 = 1000;
        overhead275 = 1000;
        cable275 = 1000;
        overhead132 = 1000;
        cable132 = 1000;
        reference = 1;
        edition = First;
        revenue = 0;
      };
      nodes = node_of "A" 3 ∷ [];
      circuits = [];
      stations = station_of "A" "A" 3 ∷ [];
    }

one_node : settled alone_study (three_runs (pos 0 ∷ []) (pos 0 ∷ []) (pos 0 ∷ []))
    ≡ written (text "C 0\nG 1 0 0 0 0 0\nD 1 0 0 0 0 0\nL A 0 0\nR 0 0\n") before
unfolding opened
one_node = refl
