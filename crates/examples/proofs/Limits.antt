-- Accepted cases with a potential of each system and the base flows exactly at their limits: HIGH from above, LOW from below. All of 100,000,000 kW goes from A over B to C and the four
-- nodes behind it. One more, in any run, is refused as 8.
use mathlib.Core.Path.{◌≡◌, refl}
use mathlib.Core.List.{List, [], ◌∷◌, ◌++◌}
use Prim.Native.Nat.{ℕ}
use Prim.Native.String.{String}
use lib.IntN.{ℤ, pos, neg_ℤ}
use lib.ListN.{replicate, set}
use Rattle.meaning.specs.declared.Edition.TheVariants.{First}
use Rattle.meaning.specs.Text.{text}
use Rattle.meaning.specs.Study.{Circuit, Study, Runs, three_runs}
use Rattle.meaning.specs.declared.Background.TheVariants.{YearRound}
use Rattle.meaning.specs.declared.System.{System}
use Rattle.meaning.specs.declared.System.TheVariants.{Base, Wider, Local}
use Rattle.meaning.specs.declared.Refusal.TheVariants.{BadNumber}
use Rattle.meaning.specs.Answers.{Judgement}
use Rattle.std.specs.Prelude.{Err}
use Rattle.meaning.specs.Grid.{grid_of}
use Rattle.meaning.specs.Systems.{solution_stage}
use Rattle.meaning.specs.Outcome.{prints}
use Rattle.meaning.proofs.Write.{name, file_of}
use Rattle.meaning.proofs.Kiln.{node_of, station_of}
use Rattle.meaning.proofs.Opened.{opened}

abbrev circuit_of : String → String → (voltage x overhead mark : ℕ) → Circuit
circuit_of a b v x o m = record { first = name a; second = name b; voltage = v; x = x; overhead = o; cable = 0; local_mark = m; factor = 0 }

-- the network with its reference and its six circuits; each total is 100,000,000 kW, and every setting of money at its highest
abbrev study_of : (reference : ℕ) → List Circuit → Study
study_of reference circuits =
    record {
      settings = record {
        generation_zones = 1;
        demand_zones = 1;
        p = 500;
        constant = 10000;
        wider_factor = 5000;
        local_factor = 5000;
        overhead400 = 1000;
        cable400 = 1000;
        overhead275 = 20000;
        cable275 = 1000;
        overhead132 = 1000;
        cable132 = 1000;
        reference = reference;
        edition = First;
        revenue = 10000000000;
      };
      nodes =
          node_of "A" 0 ∷ node_of "B" 0 ∷ node_of "C" 20000000 ∷ node_of "D" 20000000 ∷ node_of "E" 20000000 ∷ node_of "F" 20000000 ∷ node_of "G" 20000000 ∷ [];
      circuits = circuits;
      stations =
          station_of "S1" "A" 20000000 ∷ station_of "S2" "A" 20000000 ∷ station_of "S3" "A" 20000000 ∷ station_of "S4" "A" 20000000 ∷ station_of "S5" "A" 20000000 ∷ [];
    }

-- ---- HIGH: the reference is C, and the flow runs from first to second
abbrev high : Study
high =
    study_of 3
    (circuit_of "A" "B" 275 10000 500000 0 ∷ circuit_of "B" "C" 275 10000 500000 1 ∷ circuit_of "C" "D" 400 1 0 0 ∷ circuit_of "C" "E" 400 1 0 0 ∷ circuit_of "C" "F" 400 1 0 0 ∷ circuit_of "C" "G" 400 1 0 0 ∷ [])

abbrev high_runs : Runs
high_runs =
    three_runs
    (pos 2000000000000000000 ∷ pos 1000000000000000000 ∷ pos 0 ∷ replicate 4 (neg_ℤ (pos 20000000000000)) ++ (replicate 2 (pos 100000000000000) ++ replicate 4 (pos 20000000000000)))
    (pos 10000000000000000 ∷ replicate 12 (pos 0))
    (pos 10000000000000000 ∷ pos 10000000000000000 ∷ replicate 11 (pos 0))

high_prints : prints (file_of high high_runs) []
    ≡ text "C -5000000\n" ++ text "G 1 10000000 5000000 2500000000 -7450000000 -4950000000\n" ++ text "D 1 0 5000000 2500000000 -2450000000 50000000\n" ++ text "L A 10000000 5000000000\n" ++ text "R 0 0\n"
unfolding opened
high_prints = refl

-- ---- LOW: the reference is A, and the first two circuits run backward
abbrev low : Study
low =
    study_of 1
    (circuit_of "B" "A" 275 10000 500000 0 ∷ circuit_of "C" "B" 275 9999 500000 1 ∷ circuit_of "C" "D" 400 5 0 0 ∷ circuit_of "C" "E" 400 5 0 0 ∷ circuit_of "C" "F" 400 5 0 0 ∷ circuit_of "C" "G" 400 5 0 0 ∷ [])

abbrev low_runs : Runs
low_runs =
    three_runs
    (pos 0 ∷ neg_ℤ (pos 1000000000000000000) ∷ neg_ℤ (pos 1999900000000000000) ∷ replicate 4 (neg_ℤ (pos 2000000000000000000)) ++ (replicate 2 (neg_ℤ (pos 100000000000000)) ++ replicate 4 (pos 20000000000000)))
    (pos 0 ∷ replicate 6 (neg_ℤ (pos 10000000000000000)) ++ replicate 6 (pos 0))
    (pos 0 ∷ pos 0 ∷ replicate 5 (neg_ℤ (pos 10000000000000000)) ++ replicate 6 (pos 0))

low_prints : prints (file_of low low_runs) []
    ≡ text "C 5000000\n" ++ text "G 1 0 5000000 2500000000 -2450000000 50000000\n" ++ text "D 1 10000000 5000000 2500000000 -2450000000 50000000\n" ++ text "L A 0 0\n" ++ text "R 0 0\n"
unfolding opened
low_prints = refl

-- ---- one beyond: a potential, or a flow (rows after the seven nodes), of each system, whose own run alone 8 looks at
abbrev beyond : Study → Runs → System → (row : ℕ) → ℤ → Judgement
beyond S runs system row z = solution_stage (grid_of S) (λ s. set (runs s) row z) system

highs_beyond : beyond high high_runs (Base YearRound) 0 (pos 2000000000000000001)
    ∷ beyond high high_runs (Base YearRound) 7 (pos 100000000000001)
    ∷ beyond high high_runs (Wider YearRound) 0 (pos 10000000000000001)
    ∷ beyond high high_runs (Wider YearRound) 7 (pos 100000000000001)
    ∷ beyond high high_runs Local 1 (pos 10000000000000001)
    ∷ beyond high high_runs Local 12 (pos 100000000000001)
    ∷ []
    ≡ Err (BadNumber (Base YearRound) 1) ∷ Err (BadNumber (Base YearRound) 8) ∷ Err (BadNumber (Wider YearRound) 1) ∷ Err (BadNumber (Wider YearRound) 8) ∷ Err (BadNumber Local 2) ∷ Err (BadNumber Local 13) ∷ []
unfolding opened
highs_beyond = refl

lows_beyond : beyond low low_runs (Base YearRound) 6 (neg_ℤ (pos 2000000000000000001))
    ∷ beyond low low_runs (Base YearRound) 8 (neg_ℤ (pos 100000000000001))
    ∷ beyond low low_runs (Wider YearRound) 6 (neg_ℤ (pos 10000000000000001))
    ∷ beyond low low_runs (Wider YearRound) 8 (neg_ℤ (pos 100000000000001))
    ∷ beyond low low_runs Local 2 (neg_ℤ (pos 10000000000000001))
    ∷ beyond low low_runs Local 11 (neg_ℤ (pos 100000000000001))
    ∷ []
    ≡ Err (BadNumber (Base YearRound) 7) ∷ Err (BadNumber (Base YearRound) 9) ∷ Err (BadNumber (Wider YearRound) 7) ∷ Err (BadNumber (Wider YearRound) 9) ∷ Err (BadNumber Local 3) ∷ Err (BadNumber Local 12) ∷ []
unfolding opened
lows_beyond = refl
