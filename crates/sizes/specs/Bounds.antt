-- Why 64 bits are enough, and how long a sheet can be: the largest magnitude of each figure of 01 and 02, step by step.
-- Each record is some rows of the table "Sizes"; the claims at the end say of which cases they hold.
use Rattle.std.specs.Prelude.{◌≡◌, Bool, cond, ◌≢◌, List, [], ℕ, suc, ◌+◌, ◌*◌, ◌-◌, ◌≤◌, ◌<◌, eqb, ℤ, pos, neg_ℤ, nat_abs, ◌-ℤ◌, ◌*ℤ◌, ◌≤ℤ◌, ◌<ℤ◌, length, get_or}
use Rattle.integers.specs.Numbers.{sum, Σ}
use Rattle.meaning.specs.Study.{Study, Runs, circuit}
use Rattle.meaning.specs.Grid.{Grid, grid_of, plant_of, tec_of, node_tec, paying_tec, total_demand}
use Rattle.meaning.specs.Scaled.{scaled}
use Rattle.meaning.specs.Generation.{runs_as, fixed_kw, variable_tec, total_variable, remaining, generation, net}
use Rattle.meaning.specs.Direction.{expanded_length}
use Rattle.meaning.specs.Proposal.{potential}
use Rattle.meaning.specs.declared.Plant.{Plant}
use Rattle.meaning.specs.declared.Edition.{Edition}
use Rattle.meaning.specs.declared.Edition.TheVariants.{Second}
use Rattle.meaning.specs.declared.Background.{Background}
use Rattle.meaning.specs.declared.Background.TheVariants.{YearRound, Peak}
use Rattle.meaning.specs.declared.Form.{Form}
use Rattle.meaning.specs.declared.Form.TheVariants.{OneBackground, TwoBackgrounds, Sharing}
use Rattle.meaning.specs.declared.Running.{Running}
use Rattle.meaning.specs.declared.Running.TheVariants.{Fixed, Variable}
use Rattle.meaning.specs.Editions.{Of, HasSystem}
use Rattle.meaning.specs.declared.System.{System}
use Rattle.meaning.specs.declared.System.TheVariants.{Base}
use Rattle.meaning.specs.Systems.{limit_of, supply, length_of}
use Rattle.meaning.specs.declared.Side.{Side}
use Rattle.meaning.specs.declared.Side.TheVariants.{Generation, Demand}
use Rattle.meaning.specs.Sharing.{behind, shared_kw}
use Rattle.meaning.specs.Charging.{wider_income}
use Rattle.meaning.specs.Figures.{wider_metres, local_metres, distance, zones, zone_of, weight, paying, paying_in, zone_weight, zone_paying, zone_paying_in, total_paying, total_paying_in, over_zones, zone_tec_of, target, form_of, zonal_metres, C, own_metres, after_c, zone_tariff, shared_of, shared_tariff, local_tariff, priced, rest, residual, remainder, zone_total}
use Rattle.meaning.specs.Sheet.{sheet}
use Rattle.meaning.specs.Conditions.{InRange, SoundStudy, SoundShare}
use Rattle.meaning.specs.Demands.{longest_sheet}

-- what 8 has passed: the potentials of each system of the edition within their limit
abbrev pub PotentialsInRange : Edition → (nodes : ℕ) → Runs → Type 0
PotentialsInRange e nodes runs = (system : System) → HasSystem e system → (v : ℕ) → v < nodes → nat_abs (potential (runs system) v) ≤ limit_of system

-- what 16 has passed: a share file in force is sound
abbrev pub ShareSound : Grid → (share : List ℕ) → Type 0
ShareSound G share = G.settings.edition ≡ Second → share ≢ [] → SoundShare G share

-- after 7, 13 and 14: a side's kilowatts that pay are not none, nor those that pay in a background; no part of them is above their total, and the zones have all of them
pub record KilowattsFit (G : Grid) : Type 0 where
  pub all : (side : Side) → InRange (total_paying G side) 1 100000000
  pub all_in : (b : Background) → Of b G.settings.edition → (side : Side) → InRange (total_paying_in G b side) 1 100000000
  pub in_all : (b : Background) (side : Side) → total_paying_in G b side ≤ total_paying G side
  pub node_weighs : (side : Side) (v : ℕ) → v < length G.nodes → weight G side v ≤ 100000000
  pub node_pays : (side : Side) (v : ℕ) → v < length G.nodes → paying G side v ≤ 100000000
  pub node_pays_in : (b : Background) (side : Side) (v : ℕ) → v < length G.nodes → paying_in G b side v ≤ 100000000
  pub zone_weighs : (side : Side) (zone : ℕ) → zone_weight G side zone ≤ 100000000
  pub zone_pays : (side : Side) (zone : ℕ) → zone_paying G side zone ≤ 100000000
  pub zone_part : (side : Side) (zone : ℕ) → zone_paying G side zone ≤ total_paying G side
  pub zone_pays_in : (b : Background) (side : Side) (zone : ℕ) → zone_paying_in G b side zone ≤ zone_paying G side zone
  pub zones_to : (b : Background) (side : Side) (k : ℕ) → k ≤ zones G side → sum k (λ i. zone_paying_in G b side (suc i)) ≤ total_paying_in G b side
  pub zones_all : (side : Side) → sum (zones G side) (λ i. zone_paying G side (suc i)) ≡ total_paying G side
  pub zones_all_in : (b : Background) (side : Side) → sum (zones G side) (λ i. zone_paying_in G b side (suc i)) ≡ total_paying_in G b side
  -- 02, request 6: TEC of some plant types at a node, in a zone, and behind a boundary, wherever the zones lead
  pub node_types : (test : Plant → Bool) (v : ℕ) → v < length G.nodes → tec_of test G v ≤ 100000000
  pub zone_types : (test : Plant → Bool) (zone : ℕ) → zone_tec_of G test zone ≤ 100000000
  pub behind_most : (test : Plant → Bool) (next : ℕ → ℕ) (z : ℕ) → behind (zones G Generation) next (zone_tec_of G test) z ≤ 100000000

-- the percentage of a fixed type
unfoldable pub percent_of : Running → ℕ
percent_of (Fixed percent) = percent
percent_of Variable = 0

-- steps 1, 3 and 4, of a background of the edition: what is fixed and shared, supply; and signed length
pub record SystemsFit (G : Grid) (runs : Runs) : Type 0 where
  pub type_most : (v t : ℕ) → v < length G.nodes → t < 7 → get_or (get_or G.capacity v []) t 0 ≤ 100000000
  pub fixed_product : (b : Background) (v t : ℕ) → v < length G.nodes → t < 7
      → percent_of (runs_as G.settings.edition b (plant_of (suc t))) * get_or (get_or G.capacity v []) t 0 ≤ 10000000000
  pub fixed_most : (b : Background) (v : ℕ) → fixed_kw G b v ≤ node_tec G v
  pub fixed_to : (b : Background) (k : ℕ) → k ≤ length G.nodes → sum k (fixed_kw G b) ≤ 100000000
  pub variable_most : (b : Background) (v : ℕ) → variable_tec G b v ≤ node_tec G v
  pub variable_to : (b : Background) (k : ℕ) → k ≤ length G.nodes → sum k (variable_tec G b) ≤ 100000000
  pub shared_product : (b : Background) → Of b G.settings.edition → (v : ℕ) → v < length G.nodes → variable_tec G b v * remaining G b ≤ 10000000000000000
  pub sharing : (b : Background) → Of b G.settings.edition → remaining G b ≤ total_variable G b
  pub scaled_most : (b : Background) → Of b G.settings.edition → (v : ℕ)
      → scaled (length G.nodes) (variable_tec G b) (remaining G b) v ≤ variable_tec G b v
  pub runs_most : (b : Background) → Of b G.settings.edition → (v : ℕ) → generation G b v ≤ node_tec G v
  pub runs_none : (b : Background) → Of b G.settings.edition → (v : ℕ) → node_tec G v ≡ 0 → generation G b v ≡ 0
  pub runs_all : (b : Background) → Of b G.settings.edition → sum (length G.nodes) (generation G b) ≡ total_demand G
  pub net_kw : (b : Background) → Of b G.settings.edition → (v : ℕ) → v < length G.nodes → nat_abs (net G b v) ≤ 100000000
  pub base_supply : (b : Background) → Of b G.settings.edition → (v : ℕ) → v < length G.nodes → nat_abs (supply G (Base b) v) ≤ 100000000000000
  pub expanded : (c : ℕ) → c < length G.circuits → expanded_length G.settings (circuit G.circuits c) ≤ 30000000000
  pub signed : (c : ℕ) → c < length G.circuits → nat_abs (length_of G runs c) ≤ 30000000000000000

-- step 7: what node v adds to the sum of a zone
abbrev pub zone_share : Grid → Runs → Background → Side → (zone v : ℕ) → ℤ
zone_share G runs b side zone v = cond (eqb (zone_of G side v) zone) (distance runs b side v *ℤ pos (weight G side v)) (pos 0)

-- step 8: what is divided for C, and by what
abbrev pub above_of_c : Grid → Runs → Background → ℤ
above_of_c G runs b =
    pos (1000 - G.settings.p) *ℤ over_zones G b Demand (zonal_metres G runs b Demand)
    -ℤ pos G.settings.p *ℤ over_zones G b Generation (zonal_metres G runs b Generation)

abbrev pub below_of_c : Grid → Background → ℕ
below_of_c G b = G.settings.p * total_paying_in G b Generation + (1000 - G.settings.p) * total_paying_in G b Demand

-- steps 6 to 8, of a background of the edition: metres, also of a zone without kilowatts, and the sums as far as a loop has come
pub record MetresFit (G : Grid) (runs : Runs) (b : Background) : Type 0 where
  pub wider_node : (v : ℕ) → v < length G.nodes → nat_abs (wider_metres runs b v) ≤ 10000000
  pub zone_to : (side : Side) (zone k : ℕ) → k ≤ length G.nodes → nat_abs (Σ k (zone_share G runs b side zone)) ≤ 10000000 * zone_weight G side zone
  pub zonal : (side : Side) (zone : ℕ) → nat_abs (zonal_metres G runs b side zone) ≤ 10000000
  pub zonal_none : (side : Side) (zone : ℕ) → zone_weight G side zone ≡ 0 → zonal_metres G runs b side zone ≡ pos 0
  pub zones_to : (side : Side) (k : ℕ) → k ≤ zones G side
      → nat_abs (Σ k (λ i. zonal_metres G runs b side (suc i) *ℤ pos (zone_paying_in G b side (suc i)))) ≤ 1000000000000000
  pub above : nat_abs (above_of_c G runs b) ≤ 1000000000000000000
  pub below : InRange (below_of_c G b) 1 100000000000
  pub centre : nat_abs (C G runs b) ≤ 10000000

-- ---- bounds that a share file moves (02, request 6), by the form of a side's lines
-- the metres that a zone's tariff is of: not-shared ones are those along up to 31 boundaries, 2 x 10^7 each, and the centre's
abbrev pub own_most : Form → Background → ℕ
own_most OneBackground b = 10000000
own_most TwoBackgrounds b = 10000000
own_most Sharing Peak = 10000000
own_most Sharing YearRound = 630000000

-- with C, of up to 10^7
abbrev pub with_c_most : Form → Background → ℕ
with_c_most form b = own_most form b + 10000000

-- its shared metres: those along up to 31 boundaries
abbrev pub shared_most : Form → ℕ
shared_most OneBackground = 0
shared_most TwoBackgrounds = 0
shared_most Sharing = 620000000

-- tariffs: at most 500 micro-pounds a metre, by a constant of 10,000 and a factor of 5,000
abbrev pub tariff_most : Form → Background → ℕ
tariff_most form b = 500 * with_c_most form b

abbrev pub shared_tariff_most : Form → ℕ
shared_tariff_most form = 500 * shared_most form

-- those that a zone's total has: 2 x 10^10, and 3.3 x 10^11 with a file
abbrev pub tariffs_most : Form → ℕ
tariffs_most form = tariff_most form YearRound + tariff_most form Peak

-- what a kilowatt that pays is charged before the residual, with the shared and a local tariff: 2.5 x 10^10, and 6.45 x 10^11 with a file
abbrev pub charged_most : Form → ℕ
charged_most form = tariffs_most form + shared_tariff_most form + 5000000000

-- a residual lies up to that far below 0 or above 10^16, and a total, with the zone's tariffs, up to 4.5 x 10^10, and 9.75 x 10^11 with a file
abbrev pub total_most : Form → ℕ
total_most form = charged_most form + tariffs_most form

-- steps 8 and 9, of a background of the edition: metres after C, tariffs, and what is divided for them
pub record TariffsFit (G : Grid) (runs : Runs) (share : List ℕ) (b : Background) : Type 0 where
  pub own : (side : Side) (zone : ℕ) → nat_abs (own_metres G runs share b side zone) ≤ own_most (form_of G share side) b
  pub with_c : (side : Side) (zone : ℕ) → nat_abs (after_c G runs share b side zone) ≤ with_c_most (form_of G share side) b
  pub zone_product : (side : Side) (zone : ℕ)
      → nat_abs (after_c G runs share b side zone *ℤ pos G.settings.constant *ℤ pos G.settings.wider_factor) ≤ 50000000 * with_c_most (form_of G share side) b
  pub of_zone : (side : Side) (zone : ℕ) → nat_abs (zone_tariff G runs share b side zone) ≤ tariff_most (form_of G share side) b

-- 02, request 6: shared metres, their tariff, and the kilowatts that it is charged on, some of those that pay
pub record SharesFit (G : Grid) (runs : Runs) (share : List ℕ) : Type 0 where
  pub metres : (side : Side) (zone : ℕ) → nat_abs (shared_of G runs share side zone) ≤ shared_most (form_of G share side)
  pub zone_product : (side : Side) (zone : ℕ)
      → nat_abs (shared_of G runs share side zone *ℤ pos G.settings.constant *ℤ pos G.settings.wider_factor) ≤ 50000000 * shared_most (form_of G share side)
  pub of_zone : (side : Side) (zone : ℕ) → nat_abs (shared_tariff G runs share side zone) ≤ shared_tariff_most (form_of G share side)
  pub kw : (side : Side) (zone : ℕ) → shared_kw (priced G runs share side).sharing zone ≤ zone_paying G side zone

-- steps 6 and 9 of the local system
pub record LocalFits (G : Grid) (runs : Runs) : Type 0 where
  pub node : (v : ℕ) → v < length G.nodes → nat_abs (local_metres runs v) ≤ 10000000
  pub product : (v : ℕ) → v < length G.nodes
      → nat_abs (local_metres runs v *ℤ pos G.settings.constant *ℤ pos G.settings.local_factor) ≤ 500000000000000
  pub of_node : (v : ℕ) → v < length G.nodes → nat_abs (local_tariff G runs v) ≤ 5000000000

-- step 10: incomes as far as a loop has come, rest, residual, total and remainder. Incomes shrink with the kilowatts that divide the rest.
-- With a share file the bound on the rest is past 64 bits (6.5 x 10^19): code holds it as residual and remainder (crate rests)
pub record RestFits (G : Grid) (runs : Runs) (share : List ℕ) : Type 0 where
  pub target_most : (side : Side) → nat_abs (target G side) ≤ 10000000000000000
  pub income_to : (b : Background) → Of b G.settings.edition → (side : Side) (k : ℕ) → k ≤ zones G side
      → nat_abs (Σ k (λ i. zone_tariff G runs share b side (suc i) *ℤ pos (zone_paying_in G b side (suc i))))
      ≤ tariff_most (form_of G share side) b * sum k (λ i. zone_paying_in G b side (suc i))
  pub shared_to : (side : Side) (k : ℕ) → k ≤ zones G side
      → nat_abs (Σ k (λ i. shared_tariff G runs share side (suc i) *ℤ pos (shared_kw (priced G runs share side).sharing (suc i))))
      ≤ shared_tariff_most (form_of G share side) * sum k (λ i. zone_paying G side (suc i))
  pub wider_most : (side : Side) → nat_abs (wider_income (priced G runs share side)) ≤ (tariffs_most (form_of G share side) + shared_tariff_most (form_of G share side)) * total_paying G side
  pub local_to : (k : ℕ) → k ≤ length G.nodes
      → nat_abs (Σ k (λ v. local_tariff G runs v *ℤ pos (paying_tec G v))) ≤ 5000000000 * sum k (paying_tec G)
  pub local_most : (k : ℕ) → k ≤ length G.nodes → nat_abs (Σ k (λ v. local_tariff G runs v *ℤ pos (paying_tec G v))) ≤ 500000000000000000
  pub rest_most : (side : Side) → nat_abs (rest G runs share side) ≤ 10000000000000000 + charged_most (form_of G share side) * 100000000
  pub residual_range : (side : Side)
      → (neg_ℤ (pos (charged_most (form_of G share side))) ≤ℤ residual G runs share side) × (residual G runs share side ≤ℤ pos (10000000000000000 + charged_most (form_of G share side)))
  pub total_range : (side : Side) (zone : ℕ)
      → (neg_ℤ (pos (total_most (form_of G share side))) ≤ℤ zone_total G runs share side zone) × (zone_total G runs share side zone ≤ℤ pos (10000000000000000 + total_most (form_of G share side)))
  pub remainder_range : (side : Side) → (pos 0 ≤ℤ remainder G runs share side) × (remainder G runs share side <ℤ pos (total_paying G side))

-- ---- the claims
abbrev pub KilowattsAlwaysFit : Type 0
KilowattsAlwaysFit = (S : Study) → SoundStudy S → KilowattsFit (grid_of S)

abbrev pub SystemsAlwaysFit : Type 0
SystemsAlwaysFit = (S : Study) → SoundStudy S → (runs : Runs) → SystemsFit (grid_of S) runs

pub record FiguresFit (G : Grid) (runs : Runs) (share : List ℕ) : Type 0 where
  pub metres : (b : Background) → Of b G.settings.edition → MetresFit G runs b
  pub tariffs : (b : Background) → Of b G.settings.edition → TariffsFit G runs share b
  pub shares : SharesFit G runs share
  pub locals : LocalFits G runs
  pub rests : RestFits G runs share

abbrev pub FiguresAlwaysFit : Type 0
FiguresAlwaysFit =
    (S : Study) → SoundStudy S → (runs : Runs) → PotentialsInRange S.settings.edition (length S.nodes) runs → (share : List ℕ) → ShareSound (grid_of S) share
    → FiguresFit (grid_of S) runs share

-- 01, The sheet: "Its own buffer holds any sheet these ranges allow, so it never prints 12." C line 12 (22 in edition 2), 64 zone lines of 74 (107),
-- 256 node lines of 37, R line 20; with a share file in force the 32 `G` lines have 135. That the nodes are at most 256 is judged with 1. The claim about files is `SheetsFit` of Demands
abbrev pub SheetAlwaysFits : Type 0
SheetAlwaysFits =
    (S : Study) → SoundStudy S → length S.nodes ≤ 256 → (runs : Runs) → PotentialsInRange S.settings.edition (length S.nodes) runs → (share : List ℕ) → ShareSound (grid_of S) share
    → length (sheet (grid_of S) runs share) ≤ longest_sheet (form_of (grid_of S) share Generation)
