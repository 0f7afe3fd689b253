-- 01, What stops a case, as a person reads it: what is asked at each place of 01's order, and which refusal is then THE answer. No test is in it.
use Rattle.std.specs.Prelude.{◌≡◌, ◌⊎◌, List, [], ◌∷◌, ◌++◌, ℕ, suc, ◌+◌, ◌-◌, ◌≤◌, ◌<◌, pos, nat_abs, ◌-ℤ◌, length, get_or}
use Rattle.meaning.specs.declared.Edition.{Edition}
use Rattle.meaning.specs.declared.Edition.TheVariants.{First, Second}
use Rattle.meaning.specs.declared.Background.TheVariants.{YearRound, Peak}
use Rattle.meaning.specs.Editions.{flow_systems, distance_systems}
use Rattle.meaning.specs.Study.{Study, Runs}
use Rattle.meaning.specs.File.{study_of}
use Rattle.meaning.specs.declared.System.{System}
use Rattle.meaning.specs.declared.Refusal.{Refusal}
use Rattle.meaning.specs.declared.Refusal.TheVariants.{BadFile, BadSetting, BadNode, BadCircuit, BadStation, Unreached, BadTotal, BadNumber, Unbalanced, MissesTooHigh, DirectionInDoubt, ShortBuffer, NoChargeableTec, Unscalable, BackgroundInDoubt, BadShare}
use Rattle.meaning.specs.Grid.{Grid, grid_of}
use Rattle.meaning.specs.Network.{Network, network_of, Reached}
use Rattle.meaning.specs.Proposal.{potential, flow, flow_out, flow_in, miss_sum, Proposed}
use Rattle.meaning.specs.Systems.{background_of, proposed}
use Rattle.meaning.specs.declared.Side.TheVariants.{Generation}
use Rattle.meaning.specs.Sharing.{next_inward}
use Rattle.meaning.specs.Figures.{zones, zone_weight}
use Rattle.meaning.specs.Outcome.{sheet_of}
use Rattle.meaning.specs.Conditions.{WholeFile, SoundSettings, SoundNode, SoundCircuit, SoundStation, SoundTotals, Chargeable, Scalable, SoundShareFrame, SoundZone, Decided, Clear}

-- ---- what 8, 9 and 10 ask, each by itself; the others are in Conditions
-- not 8 at row i: "circuits after nodes"; "The reference node's potential is 0."
pub record SoundNumber (N : Network) (P : Proposed) (i : ℕ) : Type 0 where
  pub potential : i < N.nodes → nat_abs (get_or P.run i (pos 0)) ≤ P.limit
  pub flow : N.nodes ≤ i → nat_abs (get_or P.run i (pos 0)) ≤ 100000000000000
  pub ground : i ≡ N.reference → get_or P.run i (pos 0) ≡ pos 0

-- not 9 at node v
abbrev pub Balanced : Network → Proposed → ℕ → Type 0
Balanced N P v = flow_out N (flow N P.run) v -ℤ flow_in N (flow N P.run) v ≡ P.supply v

-- not 10
abbrev pub MissesLow : Network → Proposed → Type 0
MissesLow N P = miss_sum N P.offset (potential P.run) (flow N P.run) ≤ 100000000

-- ---- a place of the order: what is asked, of the case or of each of n rows, and the refusal where it is not so. Row i is printed as i + 1
pub data Condition : Type 1 where
  whole : (Holds : Type 0) → Refusal → Condition
  each_row : (n : ℕ) → (Holds : ℕ → Type 0) → (ℕ → Refusal) → Condition

abbrev pub Met : Condition → Type 0
Met (whole Holds r) = Holds
Met (each_row n Holds r) = (i : ℕ) → i < n → Holds i

-- "Lowest row first": row i does not hold, and every lower one does
pub record LowestUnmet (n : ℕ) (Holds : ℕ → Type 0) (i : ℕ) : Type 0 where
  pub within : i < n
  pub unmet : Holds i → ⊥
  pub lower : (j : ℕ) → j < i → Holds j

abbrev pub Unmet : Condition → Refusal → Type 0
Unmet (whole Holds r) cause = (cause ≡ r) × (Holds → ⊥)
Unmet (each_row n Holds r) cause = (i : ℕ) × (cause ≡ r (suc i)) × LowestUnmet n Holds i

-- every place is met; or the first that is not is refused so, and all before it are met
abbrev pub AllMet : List Condition → Type 0
AllMet [] = Unit {0}
AllMet (c ∷ cs) = Met c × AllMet cs

abbrev pub FirstUnmet : List Condition → Refusal → Type 0
FirstUnmet [] cause = ⊥
FirstUnmet (c ∷ cs) cause = Unmet c cause ⊎ Met c × FirstUnmet cs cause

-- ---- 01's table in 01's order, and what 02 adds in its place
-- 2 to 5 of a study
abbrev pub rows_order : Study → List Condition
rows_order S =
    whole (SoundSettings (length S.nodes) S.settings) BadSetting
    ∷ each_row (length S.nodes) (SoundNode S) BadNode
    ∷ each_row (length S.circuits) (SoundCircuit S) BadCircuit
    ∷ each_row (length S.stations) (SoundStation S) BadStation
    ∷ []

-- 02, request 5: what edition 2 alone asks
abbrev pub only_second : Edition → List Condition → List Condition
only_second First cs = []
only_second Second cs = cs

-- 14, of each background
abbrev pub scaling_order : Grid → List Condition
scaling_order G = only_second G.settings.edition (whole (Scalable G YearRound) Unscalable ∷ whole (Scalable G Peak) Unscalable ∷ [])

-- 6 and 7, then 13, then 14
abbrev pub grid_order : Grid → List Condition
grid_order G =
    each_row (length G.nodes) (Reached (network_of G)) Unreached
    ∷ whole (SoundTotals G) BadTotal
    ∷ whole (Chargeable G) NoChargeableTec
    ∷ scaling_order G

-- 16, which edition 2 alone asks, and only of a file that is there
abbrev pub only_of : (share : List ℕ) → List Condition → List Condition
only_of [] cs = []
only_of (b ∷ bs) cs = cs

abbrev pub share_order : Grid → (share : List ℕ) → List Condition
share_order G share =
    let n = zones G Generation in
    only_second G.settings.edition (only_of share (
    whole (SoundShareFrame share n) (BadShare 0)
    ∷ each_row n (λ i. SoundZone n (zone_weight G Generation) (next_inward share n) (suc i)) BadShare
    ∷ []))

-- "8, 9, 10" of a system; 15; and 11, "with the system whose flow is in doubt"
abbrev pub system_order : Grid → Runs → System → List Condition
system_order G runs s =
    each_row (length G.nodes + length G.circuits) (SoundNumber (network_of G) (proposed G runs s)) (BadNumber s)
    ∷ each_row (length G.nodes) (Balanced (network_of G) (proposed G runs s)) (Unbalanced s)
    ∷ whole (MissesLow (network_of G) (proposed G runs s)) (MissesTooHigh s)
    ∷ []

abbrev pub counting_order : Grid → Runs → List Condition
counting_order G runs = only_second G.settings.edition (each_row (length G.circuits) (Decided G runs) BackgroundInDoubt ∷ [])

abbrev pub direction_order : Grid → Runs → List Condition
direction_order G runs = each_row (length G.circuits) (Clear G runs) (λ row. DirectionInDoubt (background_of G runs (row - 1)) row) ∷ []

-- of these systems in their order, then what comes after
abbrev pub systems_order : Grid → Runs → List System → (after : List Condition) → List Condition
systems_order G runs [] after = after
systems_order G runs (s ∷ ss) after = system_order G runs s ++ systems_order G runs ss after

-- "8, 9, 10 for system 1 (base); 11; 8, 9, 10 for system 2 (wider), then 3 (local)"; 02, request 5: "8 to 10 for systems 1 and 4; 15 ..; 11 ..; 8 to 10 for 2, 5 and 3"
abbrev pub proposals_order : Grid → Runs → List Condition
proposals_order G runs =
    let e = G.settings.edition in
    systems_order G runs (flow_systems e) (counting_order G runs ++ (direction_order G runs ++ systems_order G runs (distance_systems e) []))

-- "Order: 1 to 7;" 13, 14, 16, and these
abbrev pub case_order : (file : List ℕ) → Runs → (share : List ℕ) → List Condition
case_order file runs share =
    let S = study_of file in
    let G = grid_of S in
    whole (WholeFile file runs) BadFile ∷ (rows_order S ++ (grid_order G ++ (share_order G share ++ proposals_order G runs)))

-- then 12
abbrev pub order : (file : List ℕ) → Runs → (share buffer : List ℕ) → List Condition
order file runs share buffer = case_order file runs share ++ (whole (length (sheet_of file runs share) ≤ length buffer) ShortBuffer ∷ [])

-- a case is refused so: what this number asks is not so at this row, it is so at every lower row, and everything before it in the order is met
abbrev pub Stopped : (file : List ℕ) → Runs → (share buffer : List ℕ) → Refusal → Type 0
Stopped file runs share buffer cause = FirstUnmet (order file runs share buffer) cause
