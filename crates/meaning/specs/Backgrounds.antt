-- 02, request 5: "Peak and year round." The demands are stated once over both editions; what is promised of the editions and backgrounds besides, as statements over the definitions.
use Rattle.std.specs.Prelude.{◌≡◌, ◌≢◌, cond, List, [], ◌∷◌, map, ℕ, ◌+◌, ◌≤◌, ◌<◌, eqb, ℤ, pos, ◌+ℤ◌, ◌*ℤ◌, length}
use Rattle.integers.specs.Numbers.{sum}
use Rattle.meaning.specs.declared.Edition.TheVariants.{First, Second}
use Rattle.meaning.specs.declared.Background.{Background}
use Rattle.meaning.specs.declared.Background.TheVariants.{YearRound, Peak}
use Rattle.meaning.specs.declared.System.TheVariants.{Base, Wider, Local}
use Rattle.meaning.specs.declared.Side.{Side}
use Rattle.meaning.specs.declared.Side.TheVariants.{Generation}
use Rattle.std.specs.Prelude.{Ok, Err}
use Rattle.meaning.specs.declared.Refusal.{Refusal}
use Rattle.meaning.specs.declared.Refusal.TheVariants.{BadFile}
use Rattle.meaning.specs.Answers.{values, ◌or_else◌}
use Rattle.meaning.specs.Editions.{Of, system_number, flow_systems, distance_systems}
use Rattle.meaning.specs.Study.{Metres, Study, Runs, circuit, runs_of, three_runs}
use Rattle.meaning.specs.File.{edition_at, sections, trailer_size, most_circuits, version_of, study_of}
use Rattle.meaning.specs.Grid.{Grid, grid_of, capacity_of, node_tec, paying_tec, paying_tec_in, total_demand}
use Rattle.meaning.specs.Scaled.{scaled}
use Rattle.meaning.specs.Generation.{generation, scaling_stage}
use Rattle.meaning.specs.Direction.{direction, signed_length}
use Rattle.meaning.specs.Systems.{base_flow, background_of, heading, length_of, offset, solution_stage, direction_stage, proposals_stage}
use Rattle.meaning.specs.Charging.{wider_income}
use Rattle.meaning.specs.Figures.{share_stage, form_of, zone_weight, paying, paying_in, zone_paying, total_paying_in, over_zones, zonal_metres, after_c, zone_tariff, residual, zone_total, zone_figures, priced}
use Rattle.meaning.specs.Text.{text, natural, decimals}
use Rattle.meaning.specs.Sheet.{constant_fields, letter, zone_fields}
use Rattle.meaning.specs.Outcome.{refused, settle}
use Rattle.meaning.specs.Conditions.{Acceptable}
use Rattle.meaning.specs.Read.{field, read_natural, read_whole, has_letter, zone_income}

-- ---- "8 to 10 for systems 1 and 4; 15 ..; 11 ..; 8 to 10 for 2, 5 and 3", in the numbers that a refusal carries; in edition 1 01's
pub record SystemsInOrder : Type 0 where
  pub flows_first : map system_number (flow_systems First) ≡ 1 ∷ []
  pub distances_first : map system_number (distance_systems First) ≡ 2 ∷ 3 ∷ []
  pub flows_second : map system_number (flow_systems Second) ≡ 1 ∷ 4 ∷ []
  pub distances_second : map system_number (distance_systems Second) ≡ 2 ∷ 5 ∷ 3 ∷ []

-- ---- "0 is edition 1, with its present sheet": each definition that this request changed is, of edition 1, 01's
-- a file's frame: seven sections, "a 64-byte trailer", and the circuits of its version
pub record FrameAs01 (file : List ℕ) : Type 0 where
  pub sections : sections (edition_at file) ≡ 7
  pub trailer : trailer_size (edition_at file) ≡ 64
  pub circuits : most_circuits (edition_at file) (version_of file) ≡ cond (eqb (version_of file) 2) 480 512

module _ (G : Grid) (runs : Runs) (share : List ℕ) where
  -- "zonal metres, metres after C, tariff, residual, total"
  abbrev pub five_numbers : Side → (zone : ℕ) → List ℤ
  five_numbers side zone =
      zonal_metres G runs YearRound side zone ∷ after_c G runs share YearRound side zone ∷ zone_tariff G runs share YearRound side zone ∷ residual G runs share side
      ∷ zone_total G runs share side zone
      ∷ []

  -- the steps, in 01's order
  pub record StepsAs01 : Type 0 where
    pub generation : (v : ℕ) → generation G YearRound v ≡ scaled (length G.nodes) (node_tec G) (total_demand G) v
    pub directions : (c : ℕ) → heading G runs c ≡ direction (base_flow G runs YearRound c)
    pub lengths : (c : ℕ) → length_of G runs c ≡ signed_length G.settings (circuit G.circuits c) (base_flow G runs YearRound c)
    pub wider : (c : ℕ) → offset G runs (Wider YearRound) c ≡ cond (eqb (circuit G.circuits c).local_mark 0) (length_of G runs c) (pos 0)
    pub payers : (side : Side) → paying_in G YearRound side ≡ paying G side
    pub income : (side : Side) → wider_income (priced G runs share side) ≡ over_zones G YearRound side (zone_tariff G runs share YearRound side)
    pub total : (side : Side) (zone : ℕ) → zone_total G runs share side zone ≡ zone_tariff G runs share YearRound side zone +ℤ residual G runs share side
    -- the sheet: "`C` and C."; "`G`, zone" and the five
    pub constant_line : (c peak_c : Metres) → constant_fields G.settings.edition c peak_c ≡ text "C" ∷ decimals (c ∷ [])
    pub zone_line : (side : Side) (zone : ℕ) → zone_fields (form_of G share side) side zone (residual G runs share side) (zone_figures G runs share side zone)
        ≡ letter side ∷ natural zone ∷ cond (eqb (zone_weight G side zone) 0) (text "-" ∷ []) (decimals (five_numbers side zone))
    -- demand 2: a line brings in its total times the kilowatts that pay, where the total is the tariff plus the residual
    pub line_income : (side : Side) (line : List ℕ) → read_whole (field 6 line) ≡ read_whole (field 4 line) +ℤ read_whole (field 5 line)
        → zone_income G share side line ≡ cond (has_letter (letter side) line) (read_whole (field 6 line) *ℤ pos (zone_paying G side (read_natural 0 (field 1 line)))) (pos 0)
    -- the order: no 14 and no 16 after 13; "8, 9, 10 for system 1 (base); 11; 8, 9, 10 for system 2 (wider), then 3 (local)"
    pub scaling : scaling_stage G ≡ Ok tt
    pub sharing : share_stage G share ≡ Ok tt
    pub order : proposals_stage G runs
        ≡ solution_stage G runs (Base YearRound) or_else direction_stage G runs or_else solution_stage G runs (Wider YearRound) or_else solution_stage G runs Local

pub record EditionOneIs01 : Type 0 where
  pub frame : (file : List ℕ) → edition_at file ≡ First → FrameAs01 file
  pub steps : (G : Grid) (runs : Runs) (share : List ℕ) → G.settings.edition ≡ First → StepsAs01 G runs share

-- so no answer of it has a number or a system that 01 and requests 1 to 4 do not list: "never 14 or 15", nor 16
pub record AnswerOfOne (r : Refusal) : Type 0 where
  pub number : (values (Err r)).number ≤ 13
  pub system : (values (Err r)).system ≤ 3

abbrev pub EditionOneAnswers : Type 0
EditionOneAnswers = (file : List ℕ) (runs : Runs) (share buffer : List ℕ) (r : Refusal) → (study_of file).settings.edition ≡ First → (settle file runs share buffer).answer ≡ Err r → AnswerOfOne r

-- ---- the lent runs are those of the edition, else 1: a case of edition 2 with three runs, and one of edition 1 with a run for peak
pub record RunsOfTheEdition : Type 0 where
  pub second : (file share buffer : List ℕ) (base wider local : List ℤ) → edition_at file ≡ Second → settle file (three_runs base wider local) share buffer ≡ refused BadFile buffer
  pub first : (file share buffer : List ℕ) (base wider local peak_base peak_wider : List ℤ) → edition_at file ≡ First → 1 ≤ length peak_base + length peak_wider
      → settle file (runs_of base wider local peak_base peak_wider) share buffer ≡ refused BadFile buffer

-- ---- "Edition 2 makes two backgrounds": in each, what runs adds up to the demand, and at no node above its TEC
pub record Served (G : Grid) (b : Background) : Type 0 where
  pub all : sum (length G.nodes) (generation G b) ≡ total_demand G
  pub most : (v : ℕ) → generation G b v ≤ node_tec G v

abbrev pub EachBackgroundServed : Type 0
EachBackgroundServed =
    (file : List ℕ) (runs : Runs) (share : List ℕ) → Acceptable file runs share → (b : Background) → Of b (study_of file).settings.edition → Served (grid_of (study_of file)) b

-- ---- "Its length .. stands in its wider solution only; marked circuits use year round alone": in the system of its own mark and background, and in no other
pub record StandsOnce (G : Grid) (runs : Runs) (c : ℕ) : Type 0 where
  pub unmarked : (circuit G.circuits c).local_mark ≡ 0 → offset G runs (Wider (background_of G runs c)) c ≡ length_of G runs c
  pub marked : (circuit G.circuits c).local_mark ≢ 0 → offset G runs Local c ≡ length_of G runs c
  pub once : offset G runs (Wider YearRound) c +ℤ offset G runs (Wider Peak) c +ℤ offset G runs Local c ≡ length_of G runs c

abbrev pub LengthsStandOnce : Type 0
LengthsStandOnce = (G : Grid) (runs : Runs) (c : ℕ) → StandsOnce G runs c

-- ---- "Peak's income and C count every chargeable type but 1": of a node's chargeable TEC, year round all and at peak all but type 1
pub record PayersIn (S : Study) (v : ℕ) : Type 0 where
  pub year_round : paying_tec_in YearRound (grid_of S) v ≡ paying_tec (grid_of S) v
  pub peak : paying_tec_in Peak (grid_of S) v + capacity_of S v 1 ≡ paying_tec (grid_of S) v

abbrev pub AllButIntermittentPayAtPeak : Type 0
AllButIntermittentPayAtPeak = (S : Study) (v : ℕ) → v < length S.nodes → PayersIn S v

-- and some pays there, at least as much as the demand: so C's divisor is above 0, by 14
abbrev pub PeakIsPaid : Type 0
PeakIsPaid =
    (file : List ℕ) (runs : Runs) (share : List ℕ) → Acceptable file runs share → (study_of file).settings.edition ≡ Second
    → total_demand (grid_of (study_of file)) ≤ total_paying_in (grid_of (study_of file)) Peak Generation
