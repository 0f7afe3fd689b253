-- 01, steps 1, 3, 4 and 5 (CUSC 14.15.11 to 14, 14.15.16 to 20): supply and offset of the systems, and the order in which their runs are judged.
-- 02, request 5: of each background, and which of them a circuit's length stands in.
use Rattle.std.specs.Prelude.{Bool, cond, not, ◌||◌, List, [], ◌∷◌, ℕ, ◌-◌, eqb, ℤ, pos, ◌*ℤ◌, length}
use Rattle.meaning.specs.Rows.{failing}
use Rattle.meaning.specs.Editions.{same_background, flow_systems, distance_systems}
use Rattle.meaning.specs.Study.{Runs, circuit}
use Rattle.meaning.specs.declared.Edition.{Edition}
use Rattle.meaning.specs.declared.Background.{Background}
use Rattle.meaning.specs.declared.Background.TheVariants.{YearRound, Peak}
use Rattle.meaning.specs.declared.Direction.{Direction}
use Rattle.meaning.specs.declared.Counting.{Counting}
use Rattle.meaning.specs.declared.System.{System}
use Rattle.meaning.specs.declared.System.TheVariants.{Base, Wider, Local}
use Rattle.meaning.specs.Answers.{Judgement}
use Rattle.std.specs.Prelude.{Ok}
use Rattle.meaning.specs.declared.Refusal.TheVariants.{DirectionInDoubt, BackgroundInDoubt}
use Rattle.meaning.specs.Answers.{◌or_else◌, at, in_second}
use Rattle.meaning.specs.Grid.{Grid}
use Rattle.meaning.specs.Network.{network_of}
use Rattle.meaning.specs.Generation.{net}
use Rattle.meaning.specs.Direction.{direction, in_doubt, counts_for, is_doubtful, background, has_length, signed_length}
use Rattle.meaning.specs.Proposal.{flow, Proposed, system_stage}

-- Quantities: base potential up to 2 x 10^18, wider and local potential up to 10^16
unfoldable pub limit_of : System → ℕ
limit_of (Base b) = 2000000000000000000
limit_of (Wider b) = 10000000000000000
limit_of Local = 10000000000000000

-- what stops these systems first, in their order, else what comes after
unfoldable pub in_order : (solution : System → Judgement) → List System → (after : Judgement) → Judgement
in_order solution [] after = after
in_order solution (s ∷ ss) after = solution s or_else in_order solution ss after

-- "8, 9, 10 for system 1 (base); 11; 8, 9, 10 for system 2 (wider), then 3 (local)"; 02, request 5: "8 to 10 for systems 1 and 4; 15 ..; 11 ..; 8 to 10 for 2, 5 and 3"
unfoldable pub ordered : Edition → (solution : System → Judgement) → (counting directions : Judgement) → Judgement
ordered e solution counting directions = in_order solution (flow_systems e) (counting or_else directions or_else in_order solution (distance_systems e) (Ok tt))

module _ (G : Grid) where
  open G use {settings, nodes, circuits}

  -- step 3: "supply 1,000,000 times the net kW"; step 5: supply 0
  unfoldable pub supply : System → ℕ → ℤ
  supply (Base b) v = pos 1000000 *ℤ net G b v
  supply (Wider b) v = pos 0
  supply Local v = pos 0

  module _ (runs : Runs) where
    abbrev pub base_flow : Background → ℕ → ℤ
    base_flow b = flow (network_of G) (runs (Base b))

    -- the background that circuit c counts for, and its base flow there
    unfoldable pub counting : ℕ → Counting
    counting c = counts_for settings.edition (circuit circuits c).local_mark (base_flow YearRound c) (base_flow Peak c)

    abbrev pub background_of : ℕ → Background
    background_of c = background (counting c)

    -- "a circuit's direction in edition 2 is that of the background it counts for (year round if marked)"
    abbrev pub heading : ℕ → Direction
    heading c = direction (base_flow (background_of c) c)

    -- step 4: the signed length of circuit c; "Its length takes that background's sign, with 01's bands"
    unfoldable pub length_of : ℕ → ℤ
    length_of c = signed_length settings (circuit circuits c) (base_flow (background_of c) c)

    -- step 3: offset 0; step 5: "the signed length of circuits without local mark, 0 for others", and "the mark turned round";
    -- 02, request 5: a length "stands in its wider solution only"
    unfoldable pub offset : System → ℕ → ℤ
    offset (Base b) c = pos 0
    offset (Wider b) c = cond (eqb (circuit circuits c).local_mark 0) (cond (same_background b (background_of c)) (length_of c) (pos 0)) (pos 0)
    offset Local c = cond (eqb (circuit circuits c).local_mark 0) (pos 0) (length_of c)

    -- what is proposed for a system
    unfoldable pub proposed : System → Proposed
    proposed s = record { system = s; limit = limit_of s; supply = supply s; offset = offset s; run = runs s }

    -- 8, 9, 10 of a system
    abbrev pub solution_stage : System → Judgement
    solution_stage s = system_stage (network_of G) (proposed s)

    -- 15: the background that a circuit with a length counts for is not in doubt
    unfoldable pub counting_clear : ℕ → Bool
    counting_clear c = not (has_length (circuit circuits c)) || not (is_doubtful (counting c))

    unfoldable pub counting_stage : Judgement
    counting_stage = in_second settings.edition (at (failing counting_clear (length circuits)) BackgroundInDoubt)

    -- 11: the direction of a circuit with a length is not in doubt; "with the system whose flow is in doubt, lowest circuit"
    unfoldable pub direction_clear : ℕ → Bool
    direction_clear c = not (has_length (circuit circuits c)) || not (in_doubt (heading c))

    unfoldable pub direction_stage : Judgement
    direction_stage = at (failing direction_clear (length circuits)) (λ row. DirectionInDoubt (background_of (row - 1)) row)

    unfoldable pub proposals_stage : Judgement
    proposals_stage = ordered settings.edition solution_stage counting_stage direction_stage
