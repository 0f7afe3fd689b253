-- 02, request 12 is sharp: for each thing that is asked two cases without it that are kilometres apart, and two cases with all of it that are one metre apart.
use mathlib.Core.Path.{refl}
use mathlib.Core.Logic.{◌≢◌}
use mathlib.Core.List.{List, [], ◌∷◌}
use Prim.Native.Nat.{ℕ}
use native.Mathlib.Omega.{arith}
use lib.IntN.{pos, neg_ℤ}
use lib.ListN.{replicate}
use Rattle.meaning.specs.declared.Edition.TheVariants.{First}
use Rattle.meaning.specs.Study.{Study, Runs, three_runs}
use Rattle.meaning.specs.Conditions.{Acceptable}
use Rattle.meaning.specs.OnlyDirections.{Asked, same_circuits, same_names, same_factors, same_reference, same_directions, Two, HoldsOf, Needed, EachIsNeeded, AcceptedIsNeeded, MetreIsReached}
use Rattle.meaning.proofs.Write.{file_of}
use Rattle.meaning.proofs.Opened.{opened}
use Rattle.meaning.proofs.Judged.{judged_pass}
use Rattle.claims.proofs.Tarn.{tarn_circuits, tarn, tarn_runs, tarn_acceptable, three, four}
use Rattle.tutorial.proofs.Cases.{node_in, plant, tut, tut_runs, tut_acceptable, turned, turned_runs, turned_acceptable, moved, moved_runs, moved_acceptable, stretched, stretched_runs, stretched_acceptable, plain, plain_acceptable, unused, unused_acceptable, exchanged, exchanged_runs, exchanged_acceptable, flat_runs}

-- ---- each thing asked
abbrev beside : (file file' : List ℕ) (runs runs' : Runs) → Two
beside file file' runs runs' = record { file = file; file' = file'; runs = runs; runs' = runs' }

-- with B-C at 275 kV and a factor of 2 for it, B moves 5 km and C 2.5
circuits_needed : Needed same_circuits
unfolding opened
circuits_needed =
    record {
      two = beside unused stretched tut_runs stretched_runs;
      accepted = unused_acceptable;
      accepted' = stretched_acceptable;
      others = others;
      apart = record { node = 1; is_node = omega arith; far = omega arith };
    }
  where
    others : (b : Asked) → b ≢ same_circuits → HoldsOf (beside unused stretched tut_runs stretched_runs) b
    others same_circuits n = absurd (n refl)
    others same_names n = refl
    others same_factors n = refl
    others same_reference n = refl
    others same_directions n = four _ (λ h. refl) (λ h. refl) (λ h. refl) (λ h. refl)

-- row 2 is B in one and C in the other
names_needed : Needed same_names
unfolding opened
names_needed =
    record {
      two = beside tut exchanged tut_runs exchanged_runs;
      accepted = tut_acceptable;
      accepted' = exchanged_acceptable;
      others = others;
      apart = record { node = 1; is_node = omega arith; far = omega arith };
    }
  where
    others : (b : Asked) → b ≢ same_names → HoldsOf (beside tut exchanged tut_runs exchanged_runs) b
    others same_circuits n = refl
    others same_names n = absurd (n refl)
    others same_factors n = refl
    others same_reference n = refl
    others same_directions n = four _ (λ h. refl) (λ h. refl) (λ h. refl) (λ h. refl)

-- 275 kV by a factor of 2 and of 1
factors_needed : Needed same_factors
unfolding opened
factors_needed =
    record {
      two = beside plain stretched tut_runs stretched_runs;
      accepted = plain_acceptable;
      accepted' = stretched_acceptable;
      others = others;
      apart = record { node = 1; is_node = omega arith; far = omega arith };
    }
  where
    others : (b : Asked) → b ≢ same_factors → HoldsOf (beside plain stretched tut_runs stretched_runs) b
    others same_circuits n = refl
    others same_names n = refl
    others same_factors n = absurd (n refl)
    others same_reference n = refl
    others same_directions n = four _ (λ h. refl) (λ h. refl) (λ h. refl) (λ h. refl)

-- distances from B in place of A: all move 10 km
reference_needed : Needed same_reference
unfolding opened
reference_needed =
    record {
      two = beside tut moved tut_runs moved_runs;
      accepted = tut_acceptable;
      accepted' = moved_acceptable;
      others = others;
      apart = record { node = 1; is_node = omega arith; far = omega arith };
    }
  where
    others : (b : Asked) → b ≢ same_reference → HoldsOf (beside tut moved tut_runs moved_runs) b
    others same_circuits n = refl
    others same_names n = refl
    others same_factors n = refl
    others same_reference n = absurd (n refl)
    others same_directions n = four _ (λ h. refl) (λ h. refl) (λ h. refl) (λ h. refl)

-- the tutorial's 150 MW more at B turn A-B: B moves 20 km
directions_needed : Needed same_directions
unfolding opened
directions_needed =
    record {
      two = beside tut turned tut_runs turned_runs;
      accepted = tut_acceptable;
      accepted' = turned_acceptable;
      others = others;
      apart = record { node = 1; is_node = omega arith; far = omega arith };
    }
  where
    others : (b : Asked) → b ≢ same_directions → HoldsOf (beside tut turned tut_runs turned_runs) b
    others same_circuits n = refl
    others same_names n = refl
    others same_factors n = refl
    others same_reference n = refl
    others same_directions n = absurd (n refl)

pub each_is_needed : EachIsNeeded
each_is_needed same_circuits = circuits_needed
each_is_needed same_names = names_needed
each_is_needed same_factors = factors_needed
each_is_needed same_reference = reference_needed
each_is_needed same_directions = directions_needed

-- and that both are accepted: a wider run of zeros
pub accepted_is_needed : AcceptedIsNeeded
unfolding opened
accepted_is_needed =
    record {
      two = beside tut tut tut_runs flat_runs;
      accepted = tut_acceptable;
      all = all;
      apart = record { node = 1; is_node = omega arith; far = omega arith };
    }
  where
    all : (a : Asked) → HoldsOf (beside tut tut tut_runs flat_runs) a
    all same_circuits = refl
    all same_names = refl
    all same_factors = refl
    all same_reference = refl
    all same_directions = four _ (λ h. refl) (λ h. refl) (λ h. refl) (λ h. refl)

-- ---- the metre: TARN, and TARN_METRE, its network with all else changed and a solver that is one nanometre away where TARN has halves of a metre
abbrev metre_study : Study
metre_study =
    record {
      settings = record {
        generation_zones = 3;
        demand_zones = 1;
        p = 270;
        constant = 20;
        wider_factor = 1500;
        local_factor = 1100;
        overhead400 = 1000;
        cable400 = 1000;
        overhead275 = 1500;
        cable275 = 1000;
        overhead132 = 2500;
        cable132 = 1000;
        reference = 2;
        edition = First;
        revenue = 9;
      };
      nodes = node_in "HEAD" 1 1 0 ∷ node_in "MILL" 2 1 0 ∷ node_in "FORD" 2 1 0 ∷ node_in "WEIR" 3 1 3500 ∷ [];
      circuits = tarn_circuits 1;
      stations = plant "N_1" "HEAD" 4 4000 ∷ plant "N_2" "MILL" 6 2000 ∷ plant "N_3" "WEIR" 7 1000 ∷ [];
    }

abbrev metre_runs : Runs
metre_runs =
    three_runs
    (pos 2000000000 ∷ pos 0 ∷ neg_ℤ (pos 3000000000) ∷ neg_ℤ (pos 6000000000) ∷ pos 2000000000 ∷ pos 3000000000 ∷ pos 3000000000 ∷ [])
    (pos 4499999999 ∷ pos 0 ∷ neg_ℤ (pos 2500000000) ∷ neg_ℤ (pos 2500000000) ∷ replicate 3 (pos 0))
    (pos 0 ∷ pos 0 ∷ pos 0 ∷ neg_ℤ (pos 2499999999) ∷ replicate 3 (pos 0))

abbrev metre : List ℕ
metre = file_of metre_study metre_runs

metre_acceptable : Acceptable metre metre_runs []
unfolding opened
metre_acceptable = (judged_pass metre metre_runs []).0 refl

-- HEAD is 5 m and 4 m away, and WEIR's local distance is -3 m and -2 m
pub metre_is_reached : MetreIsReached
unfolding opened
metre_is_reached =
    record {
      two = beside tarn metre tarn_runs metre_runs;
      accepted = tarn_acceptable;
      accepted' = metre_acceptable;
      all = all;
      wider = (0, omega arith, refl);
      local = (3, omega arith, refl);
    }
  where
    all : (a : Asked) → HoldsOf (beside tarn metre tarn_runs metre_runs) a
    all same_circuits = refl
    all same_names = refl
    all same_factors = refl
    all same_reference = refl
    all same_directions = three _ (λ h. refl) (λ h. refl) (λ h. refl)
