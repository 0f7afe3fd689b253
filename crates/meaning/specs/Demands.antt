-- The user's three demands, as statements over the definitions. Each is a type; its proof is a theorem of the crate `claims`.
use Rattle.std.specs.Prelude.{◌≡◌, ◌↔◌, ◌⊎◌, true, List, ◌∷◌, ℕ, suc, ◌+◌, ◌*◌, ◌-◌, ◌≤◌, ◌<◌, ℤ, pos, nat_abs, ◌+ℤ◌, ◌-ℤ◌, ◌*ℤ◌, ◌≤ℤ◌, ◌<ℤ◌, length}
use Rattle.integers.specs.Numbers.{sum, Σ, nearest}
use Rattle.meaning.specs.Editions.{Of, HasSystem}
use Rattle.meaning.specs.Study.{Metres, Circuit, Station, Study, Runs, circuit}
use Rattle.meaning.specs.File.{study_of}
use Rattle.meaning.specs.declared.Side.{Side}
use Rattle.meaning.specs.declared.Side.TheVariants.{Generation, Demand}
use Rattle.meaning.specs.declared.Edition.{Edition}
use Rattle.meaning.specs.declared.Edition.TheVariants.{First, Second}
use Rattle.meaning.specs.declared.Background.{Background}
use Rattle.meaning.specs.declared.Background.TheVariants.{YearRound, Peak}
use Rattle.meaning.specs.declared.System.{System}
use Rattle.meaning.specs.declared.System.TheVariants.{Base, Wider, Local}
use Rattle.meaning.specs.declared.Form.{Form}
use Rattle.meaning.specs.declared.Form.TheVariants.{OneBackground, TwoBackgrounds, Sharing}
use Rattle.meaning.specs.declared.Values.{Values}
use Rattle.meaning.specs.declared.Refusal.{Refusal}
use Rattle.meaning.specs.declared.Refusal.TheVariants.{BadFile, BadSetting, BadNode, BadCircuit, BadStation, Unreached, BadTotal, BadNumber, Unbalanced, MissesTooHigh, DirectionInDoubt, ShortBuffer, NoChargeableTec, Unscalable, BackgroundInDoubt, BadShare}
use Rattle.std.specs.Prelude.{Err}
use Rattle.meaning.specs.Answers.{values, refusal}
use Rattle.meaning.specs.Grid.{Grid, grid_of, capacity_of, node_tec, paying_tec, total_tec, total_demand}
use Rattle.meaning.specs.Proposal.{potential}
use Rattle.meaning.specs.Systems.{background_of, heading}
use Rattle.meaning.specs.Charging.{with_c, residual_of, remainder_of}
use Rattle.meaning.specs.Figures.{zones, zone_weight, total_paying, total_paying_in, over_zones, target, form_of, zonal_metres, C, zone_tariff, local_tariff, rest, residual, remainder}
use Rattle.meaning.specs.Outcome.{sheet_of, answer_of, refused, written, settle}
use Rattle.meaning.specs.Read.{field, read_whole, has_letter, line_at, residual_field, total_field, printed_tariffs, side_income, printed_income, printed_remainder}
use Rattle.meaning.specs.Sheet.{letter}
use Rattle.meaning.specs.Distances.{DistancesWithin}
use Rattle.meaning.specs.Conditions.{Acceptable, InRange, HasLength, WholeFile, SoundTables, SoundStudy}
use Rattle.meaning.specs.Refusals.{AllMet, rows_order, Stopped}

-- ---- demand 1
-- "system 1 (base)", "system 2 (wider)", "3 (local)"; 02, request 5: "4 and 5, peak base and wider", which edition 2 alone has
pub data SystemListed (e : Edition) : System → ℕ → Type 0 where
  base : SystemListed e (Base YearRound) 1
  wider : SystemListed e (Wider YearRound) 2
  local : SystemListed e Local 3
  peak_base : e ≡ Second → SystemListed e (Base Peak) 4
  peak_wider : e ≡ Second → SystemListed e (Wider Peak) 5

-- 01's table of what stops a case and 02's numbers, for a study of an edition with n nodes, m circuits, k stations and z generation zones: what each refusal carries. 14 to 16 are of edition 2 alone
pub data Listed (e : Edition) (n m k z : ℕ) : Refusal → Values → Type 0 where
  bad_file : Listed e n m k z BadFile (refusal 1 0 0)
  bad_setting : Listed e n m k z BadSetting (refusal 2 0 0)
  bad_node : (row : ℕ) → InRange row 1 n → Listed e n m k z (BadNode row) (refusal 3 0 row)
  bad_circuit : (row : ℕ) → InRange row 1 m → Listed e n m k z (BadCircuit row) (refusal 4 0 row)
  bad_station : (row : ℕ) → InRange row 1 k → Listed e n m k z (BadStation row) (refusal 5 0 row)
  unreached : (row : ℕ) → InRange row 1 n → Listed e n m k z (Unreached row) (refusal 6 0 row)
  bad_total : Listed e n m k z BadTotal (refusal 7 0 0)
  bad_number : (s : System) (system row : ℕ) → SystemListed e s system → InRange row 1 (n + m) → Listed e n m k z (BadNumber s row) (refusal 8 system row)
  unbalanced : (s : System) (system row : ℕ) → SystemListed e s system → InRange row 1 n → Listed e n m k z (Unbalanced s row) (refusal 9 system row)
  misses_too_high : (s : System) (system : ℕ) → SystemListed e s system → Listed e n m k z (MissesTooHigh s) (refusal 10 system 0)
  in_doubt : (b : Background) (system row : ℕ) → SystemListed e (Base b) system → InRange row 1 m → Listed e n m k z (DirectionInDoubt b row) (refusal 11 system row)
  short_buffer : Listed e n m k z ShortBuffer (refusal 12 0 0)
  no_chargeable_tec : Listed e n m k z NoChargeableTec (refusal 13 0 0)
  unscalable : e ≡ Second → Listed e n m k z Unscalable (refusal 14 0 0)
  background_in_doubt : (row : ℕ) → e ≡ Second → InRange row 1 m → Listed e n m k z (BackgroundInDoubt row) (refusal 15 0 row)
  bad_share : (row : ℕ) → e ≡ Second → row ≤ z → Listed e n m k z (BadShare row) (refusal 16 0 row)

abbrev pub ListedFor : Study → Refusal → Type 0
ListedFor S r = Listed S.settings.edition (length S.nodes) (length S.circuits) (length S.stations) S.settings.generation_zones r (values (Err r))

-- accepted: the answer is the sheet's length, and the buffer starts with the sheet; bytes behind it are untouched
abbrev pub IsWritten : List ℕ → Runs → (share buffer : List ℕ) → Type 0
IsWritten file runs share buffer = settle file runs share buffer ≡ written (sheet_of file runs share) buffer

-- refused: number, system and row are this refusal's row of the table, the length is 0, and the buffer is as it was
pub record IsRefused (file : List ℕ) (runs : Runs) (share before : List ℕ) : Type 0 where
  pub cause : Refusal
  pub listed : ListedFor (study_of file) cause
  pub settled : settle file runs share before ≡ refused cause before

-- "every entry refuses bad input itself": of any bytes, runs, share file and buffer, it is the one or the other
abbrev pub EveryInputSettled : Type 0
EveryInputSettled = (file : List ℕ) (runs : Runs) (share buffer : List ℕ) → IsWritten file runs share buffer ⊎ IsRefused file runs share buffer

-- ---- demand 2, first half
-- 1 to 11 and 13 to 16 do not hold, as the conditions say it, "and the sheet fits the buffer"
abbrev pub Accepting : List ℕ → Runs → (share buffer : List ℕ) → Type 0
Accepting file runs share buffer = Acceptable file runs share × (length (sheet_of file runs share) ≤ length buffer)

-- "accepted exactly when", and else refused
pub record ExactlyWhen (file : List ℕ) (runs : Runs) (share buffer : List ℕ) : Type 0 where
  pub accepted : IsWritten file runs share buffer ↔ Accepting file runs share buffer
  pub otherwise : (Accepting file runs share buffer → ⊥) → IsRefused file runs share buffer

abbrev pub AcceptedExactlyWhen : Type 0
AcceptedExactlyWhen = (file : List ℕ) (runs : Runs) (share buffer : List ℕ) → ExactlyWhen file runs share buffer

-- ---- demands 1 and 2: which refusal
-- "refused exactly when": this refusal is the answer exactly when 01's order stops the case there; the buffer is then as it was
pub record RefusedWhen (file : List ℕ) (runs : Runs) (share buffer : List ℕ) (r : Refusal) : Type 0 where
  pub exactly : ((settle file runs share buffer).answer ≡ Err r) ↔ Stopped file runs share buffer r
  pub untouched : Stopped file runs share buffer r → settle file runs share buffer ≡ refused r buffer

abbrev pub RefusedExactlyWhen : Type 0
RefusedExactlyWhen = (file : List ℕ) (runs : Runs) (share buffer : List ℕ) (r : Refusal) → RefusedWhen file runs share buffer r

-- so it is accepted, or stopped by one refusal, and never both
pub record OneOf (file : List ℕ) (runs : Runs) (share buffer : List ℕ) : Type 0 where
  pub either : Accepting file runs share buffer ⊎ ((r : Refusal) × Stopped file runs share buffer r)
  pub not_both : Accepting file runs share buffer → (r : Refusal) → Stopped file runs share buffer r → ⊥
  pub only_one : (q r : Refusal) → Stopped file runs share buffer q → Stopped file runs share buffer r → q ≡ r

abbrev pub OneAnswer : Type 0
OneAnswer = (file : List ℕ) (runs : Runs) (share buffer : List ℕ) → OneOf file runs share buffer

-- and an entry that lends no buffer answers what this one answers with room enough, the sheet's length included
abbrev pub JudgeIsWrite : Type 0
JudgeIsWrite = (file : List ℕ) (runs : Runs) (share buffer : List ℕ) → length (sheet_of file runs share) ≤ length buffer → (settle file runs share buffer).answer ≡ answer_of file runs share

-- ---- demand 2, second half: over what is printed
-- step 10: each side its target, in micro-pounds, less its remainder; and so both together the revenue
pub record Recovered (G : Grid) (share sheet : List ℕ) : Type 0 where
  pub generation : side_income G share Generation sheet +ℤ printed_remainder Generation sheet
      ≡ pos (G.settings.revenue * (1000 - G.settings.p) * 1000)
  pub demand : side_income G share Demand sheet +ℤ printed_remainder Demand sheet ≡ pos (G.settings.revenue * G.settings.p * 1000)
  pub all : printed_income G share sheet +ℤ printed_remainder Generation sheet +ℤ printed_remainder Demand sheet
      ≡ pos (G.settings.revenue * 1000000)
  pub not_negative : (side : Side) → pos 0 ≤ℤ printed_remainder side sheet
  pub small : (side : Side) → printed_remainder side sheet <ℤ pos (total_paying G side)
  -- "a total adds both and the residual", in edition 1 the one, and "leaves the shared tariff out"; a line with `-` has none of these, and they read as 0
  pub totals : (side : Side) (k : ℕ) → has_letter (letter side) (line_at k sheet) ≡ true
      → read_whole (field (total_field (form_of G share side)) (line_at k sheet))
      ≡ printed_tariffs G.settings.edition (form_of G share side) (line_at k sheet) +ℤ read_whole (field (residual_field (form_of G share side)) (line_at k sheet))

abbrev pub RevenueRecovered : Type 0
RevenueRecovered = (file : List ℕ) (runs : Runs) (share : List ℕ) → Acceptable file runs share → Recovered (grid_of (study_of file)) share (sheet_of file runs share)

-- step 8, what C is for: with it, demand's zones by 1000 - p and generation's by p come to the same over the kilowatts that pay, to half of C's divisor; in each background, shared metres and all
abbrev pub all_after_c : Grid → Runs → Background → Side → (zone : ℕ) → Metres
all_after_c G runs b side zone = with_c side (C G runs b) (zonal_metres G runs b side zone)

abbrev pub Balances : Grid → Runs → Background → Type 0
Balances G runs b =
    let p = G.settings.p in
    nat_abs (pos 2 *ℤ (pos (1000 - p) *ℤ over_zones G b Demand (all_after_c G runs b Demand) -ℤ pos p *ℤ over_zones G b Generation (all_after_c G runs b Generation)))
    ≤ p * total_paying_in G b Generation + (1000 - p) * total_paying_in G b Demand

abbrev pub CentreBalances : Type 0
CentreBalances =
    (file : List ℕ) (runs : Runs) (share : List ℕ) → Acceptable file runs share → (b : Background) → Of b (study_of file).settings.edition → Balances (grid_of (study_of file)) runs b

-- ---- demand 3
-- "equal settings, nodes and circuits, and equal capacity at every node for every plant type"
pub record SameButStations (S S' : Study) : Type 0 where
  pub settings : S.settings ≡ S'.settings
  pub nodes : S.nodes ≡ S'.nodes
  pub circuits : S.circuits ≡ S'.circuits
  pub capacity : (v plant_type : ℕ) → v < length S.nodes → InRange plant_type 1 7 → capacity_of S v plant_type ≡ capacity_of S' v plant_type

-- t and u have the node and the plant type of s, and together its TEC
pub record Parts (s t u : Station) : Type 0 where
  pub first_node : t.node ≡ s.node
  pub second_node : u.node ≡ s.node
  pub first_type : t.plant_type ≡ s.plant_type
  pub second_type : u.plant_type ≡ s.plant_type
  pub tec : s.tec ≡ t.tec + u.tec

-- "stations may be divided and listed differently": a row in two of its node and type, under any identifiers; two rows exchanged; and back, at any place
pub data Rearranged : List Station → List Station → Type 0 where
  same : {ss : List Station} → Rearranged ss ss
  exchanged : {s t : Station} {ss : List Station} → Rearranged (s ∷ t ∷ ss) (t ∷ s ∷ ss)
  divided : {s t u : Station} {ss : List Station} → Parts s t u → Rearranged (s ∷ ss) (t ∷ u ∷ ss)
  below : {s : Station} {ss ts : List Station} → Rearranged ss ts → Rearranged (s ∷ ss) (s ∷ ts)
  back : {ss ts : List Station} → Rearranged ss ts → Rearranged ts ss
  then : {ss ts us : List Station} → Rearranged ss ts → Rearranged ts us → Rearranged ss us

-- two studies that differ so, and in nothing else
pub record StationsRearranged (S S' : Study) : Type 0 where
  pub settings : S.settings ≡ S'.settings
  pub nodes : S.nodes ≡ S'.nodes
  pub circuits : S.circuits ≡ S'.circuits
  pub stations : Rearranged S.stations S'.stations

-- their capacities are equal, and more
abbrev pub CapacityKept : Type 0
CapacityKept =
    (S S' : Study) → StationsRearranged S S' → (v plant_type : ℕ) → capacity_of S v plant_type ≡ capacity_of S' v plant_type

-- "Every circuit with a length then has the same direction in both, or is idle in both", of the circuits of one kind
abbrev pub SameDirections : (Kind : Circuit → Type 0) (S S' : Study) (runs runs' : Runs) → Type 0
SameDirections Kind S S' runs runs' =
    (c : ℕ) → c < length S.circuits → Kind (circuit S.circuits c) → heading (grid_of S) runs c ≡ heading (grid_of S') runs' c

-- what two accepted cases then agree on, whatever the proposals; 02, request 5: "demand 3 gives it the same background in both cases"
-- request 6: "demand 3 takes equal files"
pub record Agree (S : Study) (runs runs' : Runs) (share sheet sheet' : List ℕ) : Type 0 where
  pub backgrounds : (c : ℕ) → c < length S.circuits → HasLength (circuit S.circuits c) → background_of (grid_of S) runs c ≡ background_of (grid_of S) runs' c
  pub directions : SameDirections HasLength S S runs runs'
  pub potentials : (system : System) → HasSystem S.settings.edition system → (v : ℕ) → v < length S.nodes
      → nat_abs (potential (runs system) v -ℤ potential (runs' system) v) ≤ 200000000
  -- "each node's wider and local marginal distance differs by at most one metre"; "its distances are both wider ones and the local"
  pub distances : DistancesWithin 1 (grid_of S) (grid_of S) runs runs' share share sheet sheet'
  pub sheets : runs ≡ runs' → sheet ≡ sheet'

abbrev pub SolversAgree : Type 0
SolversAgree =
    (file file' : List ℕ) (runs runs' : Runs) (share : List ℕ)
    → Acceptable file runs share
    → Acceptable file' runs' share
    → SameButStations (study_of file) (study_of file')
    → Agree (study_of file) runs runs' share (sheet_of file runs share) (sheet_of file' runs' share)

-- and a refusal tells no more of the stations: cases that pass 1 to 5 and differ in their stations alone get one answer
abbrev pub PassesToFive : List ℕ → Runs → Type 0
PassesToFive file runs = WholeFile file runs × AllMet (rows_order (study_of file))

abbrev pub StationsHidden : Type 0
StationsHidden =
    (file file' : List ℕ) (runs : Runs) (share buffer buffer' : List ℕ)
    → PassesToFive file runs
    → PassesToFive file' runs
    → SameButStations (study_of file) (study_of file')
    → length buffer ≡ length buffer'
    → (settle file runs share buffer).answer ≡ (settle file' runs share buffer').answer

-- ---- "Its own buffer holds any sheet these ranges allow, so it never prints 12."
abbrev pub longest_sheet : Form → ℕ
longest_sheet OneBackground = 14240
longest_sheet TwoBackgrounds = 16362
longest_sheet Sharing = 17258

abbrev pub SheetsFit : Type 0
SheetsFit = (file : List ℕ) (runs : Runs) (share : List ℕ) → Acceptable file runs share → length (sheet_of file runs share) ≤ longest_sheet (form_of (grid_of (study_of file)) share Generation)

-- ---- 02, request 1: "Interconnectors don't pay"
-- of a node's TEC all weighs, and all but that of type 3 pays
pub record Payers (S : Study) (v : ℕ) : Type 0 where
  pub weigh : node_tec (grid_of S) v ≡ sum 7 (λ t. capacity_of S v (suc t))
  pub pay : paying_tec (grid_of S) v + capacity_of S v 3 ≡ node_tec (grid_of S) v

abbrev pub AllButInterconnectorsPay : Type 0
AllButInterconnectorsPay = (S : Study) (v : ℕ) → v < length S.nodes → Payers S v

-- 01's steps 8 and 10 word for word: "zone metres times kW", "total TEC", "zone tariffs times TEC", "node local tariffs times TEC"
module _ (G : Grid) (runs : Runs) (share : List ℕ) where
  abbrev times_tec : (ℕ → ℤ) → ℤ
  times_tec f = Σ (zones G Generation) (λ k. f (suc k) *ℤ pos (zone_weight G Generation (suc k)))

  pub record AllTecPays : Type 0 where
    pub centre : C G runs YearRound
        ≡ nearest (pos (1000 - G.settings.p) *ℤ over_zones G YearRound Demand (zonal_metres G runs YearRound Demand) -ℤ pos G.settings.p *ℤ times_tec (zonal_metres G runs YearRound Generation))
        (G.settings.p * total_tec G + (1000 - G.settings.p) * total_demand G)
    pub generation_rest : rest G runs share Generation
        ≡ target G Generation -ℤ times_tec (zone_tariff G runs share YearRound Generation) -ℤ Σ (length G.nodes) (λ v. local_tariff G runs v *ℤ pos (node_tec G v))
    pub generation_residual : residual G runs share Generation ≡ residual_of (rest G runs share Generation) (total_tec G)
    pub generation_remainder : remainder G runs share Generation ≡ remainder_of (rest G runs share Generation) (total_tec G)

-- so a case of edition 1 without interconnectors has the sheet that 01 alone defines, and is never refused as 13
pub record AsIn01 (S : Study) (runs : Runs) : Type 0 where
  pub figures : (share : List ℕ) → AllTecPays (grid_of S) runs share
  pub chargeable : SoundTables S → SoundStudy S

abbrev pub NoInterconnectorNoChange : Type 0
NoInterconnectorNoChange =
    (S : Study) (runs : Runs) → S.settings.edition ≡ First → ((v : ℕ) → v < length S.nodes → capacity_of S v 3 ≡ 0) → AsIn01 S runs

-- what is seen of the stations in edition 1: of each node its TEC, and how much of it is interconnectors'
pub record SameTotals (S S' : Study) : Type 0 where
  pub edition : S.settings.edition ≡ First
  pub settings : S.settings ≡ S'.settings
  pub nodes : S.nodes ≡ S'.nodes
  pub circuits : S.circuits ≡ S'.circuits
  pub tec : (v : ℕ) → v < length S.nodes → node_tec (grid_of S) v ≡ node_tec (grid_of S') v
  pub interconnectors : (v : ℕ) → v < length S.nodes → capacity_of S v 3 ≡ capacity_of S' v 3

-- cases that pass 1 to 5 and agree in these get one answer, and with equal proposals one sheet, whatever the other plant types
pub record OneOutcome (file file' : List ℕ) (runs : Runs) : Type 0 where
  pub sheets : (share : List ℕ) → sheet_of file runs share ≡ sheet_of file' runs share
  pub answers : PassesToFive file runs → PassesToFive file' runs → (share buffer buffer' : List ℕ) → length buffer ≡ length buffer'
      → (settle file runs share buffer).answer ≡ (settle file' runs share buffer').answer

abbrev pub TypesHidden : Type 0
TypesHidden = (file file' : List ℕ) (runs : Runs) → SameTotals (study_of file) (study_of file') → OneOutcome file file' runs
