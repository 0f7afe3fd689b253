-- A case of edition 2 with a fault of nearly every number at once, mended one after the other: what stops it moves on in 02's order.
use mathlib.Core.Path.{◌≡◌, refl}
use mathlib.Core.List.{List, [], ◌∷◌}
use Prim.Native.Nat.{ℕ}
use lib.IntN.{ℤ, pos}
use lib.ListN.{set, replicate}
use Rattle.meaning.specs.declared.Edition.TheVariants.{Second}
use Rattle.meaning.specs.Study.{Station, Study, Runs, runs_of}
use Rattle.meaning.specs.declared.Background.TheVariants.{YearRound, Peak}
use Rattle.meaning.specs.declared.System.TheVariants.{Base, Wider, Local}
use Rattle.meaning.specs.declared.Refusal.TheVariants.{BadTotal, BadNumber, Unbalanced, MissesTooHigh, DirectionInDoubt, ShortBuffer, NoChargeableTec, Unscalable, BackgroundInDoubt}
use Rattle.meaning.specs.Answers.{Answer}
use Rattle.std.specs.Prelude.{Err}
use Rattle.meaning.specs.Outcome.{settle}
use Rattle.meaning.proofs.Write.{file_in}
use Rattle.meaning.proofs.Opened.{opened}
use Rattle.meaning.proofs.Kiln.{node_of, circuit_of}
use Rattle.meaning.proofs.Both.{plant}

-- A feeds B, which takes 1,800 kW, over two circuits of 10 m: x 2 and x 1, so that the second carries twice what the first carries
abbrev study_with : List Station → Study
study_with stations =
    record {
      settings = record {
        generation_zones = 1;
        demand_zones = 1;
        p = 500;
        constant = 1000;
        wider_factor = 1800;
        local_factor = 1000;
        overhead400 = 1000;
        cable400 = 1000;
        overhead275 = 1000;
        cable275 = 1000;
        overhead132 = 1000;
        cable132 = 1000;
        reference = 2;
        edition = Second;
        revenue = 1;
      };
      nodes = node_of "A" 0 ∷ node_of "B" 1800 ∷ [];
      circuits = circuit_of "A" "B" 2 10 ∷ circuit_of "A" "B" 1 10 ∷ [];
      stations = stations;
    }

-- 7: too little TEC, and none that pays; 13: enough, but none that pays; 14: a kilowatt pays, and in peak it alone runs
abbrev small : List Station
small = plant "LINK" "A" 3 1799 ∷ []

abbrev links : List Station
links = plant "LINK" "A" 3 1800 ∷ []

abbrev fixed : List Station
fixed = plant "LINK" "A" 3 1800 ∷ plant "GAS" "A" 7 1 ∷ []

-- 15 and 11: wind alone year round, 1,800 kW at A (70 % of 2,572 rounded down); in peak 900 kW. The second circuit has 1,200 kW and 600 kW: which background is in doubt.
-- The first has 600 kW and 300 kW, so that it counts for peak, and its direction there is in doubt
abbrev windy : List Station
windy = plant "WIND" "A" 1 2572 ∷ plant "GAS_A" "A" 7 1000 ∷ plant "GAS_B" "B" 7 1000 ∷ []

-- 11 alone: 900 kW from A in both
abbrev halves : List Station
halves = plant "GAS_A" "A" 7 1000 ∷ plant "GAS_B" "B" 7 1000 ∷ []

-- no doubt: 1,800 kW from A in both, and both circuits count for peak
abbrev clear : List Station
clear = plant "GAS_A" "A" 7 1800 ∷ []

-- potentials of A and B, flows of both circuits
abbrev full : List ℤ
full = pos 1200000000 ∷ pos 0 ∷ pos 600000000 ∷ pos 1200000000 ∷ []

abbrev half : List ℤ
half = pos 600000000 ∷ pos 0 ∷ pos 300000000 ∷ pos 600000000 ∷ []

abbrev nought : List ℤ
nought = replicate 4 (pos 0)

abbrev metres : List ℤ
metres = pos 10000000000 ∷ pos 0 ∷ pos 0 ∷ pos 0 ∷ []

-- three states of a run, by what is still wrong with it: 10; 9 and 10; 8, 9 and 10. A's potential, and the first flow, are the numbers given
abbrev ten : List ℤ → (potential : ℕ) → List ℤ
ten run potential = set run 0 (pos potential)

abbrev nine : List ℤ → (potential flow : ℕ) → List ℤ
nine run potential flow = set (ten run potential) 2 (pos flow)

abbrev eight : List ℤ → (potential flow : ℕ) → List ℤ
eight run potential flow = set (nine run potential flow) 1 (pos 1)

-- a case in a buffer of 5 bytes
abbrev answer : List Station → (base peak_base wider peak_wider local : List ℤ) → Answer
answer stations b pb w pw l =
    let runs : Runs = runs_of b w l pb pw in
    (settle (file_in 2 (study_with stations) runs) runs [] (replicate 5 7)).answer

-- with everything wrong in the wider and local runs
abbrev early : List Station → (base peak_base : List ℤ) → Answer
early stations b pb = answer stations b pb (eight nought 200000000 1) (eight metres 10200000000 1) (eight nought 200000000 1)

abbrev late : (wider peak_wider local : List ℤ) → Answer
late w pw l = answer clear full full w pw l

-- 7, 13, 14
tables : early small (eight full 1400000000 600000001) (eight half 800000000 300000001)
    ∷ early links (eight full 1400000000 600000001) (eight half 800000000 300000001)
    ∷ early fixed (eight full 1400000000 600000001) (eight half 800000000 300000001)
    ∷ []
    ≡ Err BadTotal ∷ Err NoChargeableTec ∷ Err Unscalable ∷ []
unfolding opened
tables = refl

-- 8, 9, 10 of systems 1 and 4
bases : early windy (eight full 1400000000 600000001) (eight half 800000000 300000001)
    ∷ early windy (nine full 1400000000 600000001) (eight half 800000000 300000001)
    ∷ early windy (ten full 1400000000) (eight half 800000000 300000001)
    ∷ early windy full (eight half 800000000 300000001)
    ∷ early windy full (nine half 800000000 300000001)
    ∷ early windy full (ten half 800000000)
    ∷ []
    ≡ Err (BadNumber (Base YearRound) 2) ∷ Err (Unbalanced (Base YearRound) 1) ∷ Err (MissesTooHigh (Base YearRound))
    ∷ Err (BadNumber (Base Peak) 2)
    ∷ Err (Unbalanced (Base Peak) 1)
    ∷ Err (MissesTooHigh (Base Peak))
    ∷ []
unfolding opened
bases = refl

-- 15 of the second circuit before 11 of the first; then 11, of system 4
doubts : early windy full half ∷ early halves half half ∷ [] ≡ Err (BackgroundInDoubt 2) ∷ Err (DirectionInDoubt Peak 1) ∷ []
unfolding opened
doubts = refl

-- 8, 9, 10 of systems 2, 5 and 3; then 12
widers : late (eight nought 200000000 1) (eight metres 10200000000 1) (eight nought 200000000 1)
    ∷ late (nine nought 200000000 1) (eight metres 10200000000 1) (eight nought 200000000 1)
    ∷ late (ten nought 200000000) (eight metres 10200000000 1) (eight nought 200000000 1)
    ∷ late nought (eight metres 10200000000 1) (eight nought 200000000 1)
    ∷ late nought (nine metres 10200000000 1) (eight nought 200000000 1)
    ∷ late nought (ten metres 10200000000) (eight nought 200000000 1)
    ∷ []
    ≡ Err (BadNumber (Wider YearRound) 2) ∷ Err (Unbalanced (Wider YearRound) 1) ∷ Err (MissesTooHigh (Wider YearRound))
    ∷ Err (BadNumber (Wider Peak) 2)
    ∷ Err (Unbalanced (Wider Peak) 1)
    ∷ Err (MissesTooHigh (Wider Peak))
    ∷ []
unfolding opened
widers = refl

local : late nought metres (eight nought 200000000 1) ∷ late nought metres (nine nought 200000000 1) ∷ late nought metres (ten nought 200000000)
    ∷ late nought metres nought
    ∷ []
    ≡ Err (BadNumber Local 2) ∷ Err (Unbalanced Local 1) ∷ Err (MissesTooHigh Local) ∷ Err ShortBuffer ∷ []
unfolding opened
local = refl
