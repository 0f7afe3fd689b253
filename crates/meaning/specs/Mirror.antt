-- 02, request 2: "Our editors hold generation against demand, and a half that goes up on both sides spoils the mirror." What they see now, as statements.
use Rattle.std.specs.Prelude.{◌≡◌, ◌⊎◌, true, false, cond, List, ℕ, ◌+◌, ◌*◌, ◌-◌, ◌≤◌, ◌<◌, eqb, ℤ, pos, neg_ℤ, ◌+ℤ◌, ◌-ℤ◌, ◌*ℤ◌, length, ◌<ℤ◌}
use Rattle.integers.specs.Numbers.{sum, Σ, floor_div, nearest}
use Rattle.meaning.specs.declared.Side.{Side}
use Rattle.meaning.specs.declared.Side.TheVariants.{Generation, Demand}
use Rattle.meaning.specs.declared.System.{System}
use Rattle.meaning.specs.declared.Background.{Background}
use Rattle.meaning.specs.declared.Background.TheVariants.{YearRound, Peak}
use Rattle.meaning.specs.declared.Form.{Form}
use Rattle.meaning.specs.declared.Form.TheVariants.{OneBackground, TwoBackgrounds, Sharing}
use Rattle.meaning.specs.Editions.{OfDistances}
use Rattle.meaning.specs.Study.{Kw, Metres, Runs}
use Rattle.meaning.specs.File.{study_of}
use Rattle.meaning.specs.Grid.{Grid, grid_of}
use Rattle.meaning.specs.Proposal.{potential}
use Rattle.meaning.specs.Figures.{zones, zone_of, weight, paying, paying_in, zone_weight, total_paying_in, over_zones, distance, metres_by, form_of, zonal_metres, C, after_c, zone_tariff, shared_of, shared_tariff, local_metres, local_tariff, local_income, residual, remainder, zone_total}
use Rattle.meaning.specs.Sharing.{in_force}
use Rattle.meaning.specs.Outcome.{sheet_of}
use Rattle.meaning.specs.Sheet.{letter}
use Rattle.meaning.specs.Read.{field, read_natural, read_whole, has_letter, line_at, metres_field, residual_field}
use Rattle.meaning.specs.Conditions.{Acceptable}
use Rattle.meaning.specs.Distances.{weight_in}

-- ---- one division
abbrev pub NearestMirrors : Type 0
NearestMirrors = (z : ℤ) (d : ℕ) → nearest (neg_ℤ z) d ≡ neg_ℤ (nearest z d)

-- 01, Quantities, before this request: "a half going up towards plus infinity"
abbrev pub half_up : ℤ → ℕ → ℤ
half_up z d = floor_div (pos 2 *ℤ z +ℤ pos d) (2 * d)

-- z / d is a half below zero: k + 1/2, of which the nearest is now k, and was k + 1
pub record NegativeHalf (z : ℤ) (d : ℕ) : Type 0 where
  pub below : z <ℤ pos 0
  pub half : pos 2 *ℤ z ≡ (pos 2 *ℤ nearest z d +ℤ pos 1) *ℤ pos d
  pub was : half_up z d ≡ nearest z d +ℤ pos 1

-- and nothing else moves
abbrev pub OnlyNegativeHalvesMove : Type 0
OnlyNegativeHalvesMove = (z : ℤ) (d : ℕ) → 0 < d → (nearest z d ≡ half_up z d) ⊎ NegativeHalf z d

-- ---- the divisions of a case: steps 6, 7, 8 and 9 divide z by d for this figure
pub data Divides (G : Grid) (runs : Runs) (share : List ℕ) : (z : ℤ) (d : ℕ) (figure : ℤ) → Type 0 where
  nodal : (s : System) → OfDistances s → (v : ℕ) → Divides G runs share (potential (runs s) v) 1000000000 (metres_by s runs v)
  zonal : (b : Background) (side : Side) (zone : ℕ)
      → Divides G runs share (Σ (length G.nodes) (λ v. cond (eqb (zone_of G side v) zone) (distance runs b side v *ℤ pos (weight G side v)) (pos 0))) (zone_weight G side zone) (zonal_metres G runs b side zone)
  centre : (b : Background) → Divides G runs share
      (pos (1000 - G.settings.p) *ℤ over_zones G b Demand (zonal_metres G runs b Demand) -ℤ pos G.settings.p *ℤ over_zones G b Generation (zonal_metres G runs b Generation))
      (G.settings.p * total_paying_in G b Generation + (1000 - G.settings.p) * total_paying_in G b Demand)
      (C G runs b)
  zone_tariffs : (b : Background) (side : Side) (zone : ℕ)
      → Divides G runs share (after_c G runs share b side zone *ℤ pos G.settings.constant *ℤ pos G.settings.wider_factor) 100000 (zone_tariff G runs share b side zone)
  shared_tariffs : (side : Side) (zone : ℕ)
      → Divides G runs share (shared_of G runs share side zone *ℤ pos G.settings.constant *ℤ pos G.settings.wider_factor) 100000 (shared_tariff G runs share side zone)
  local_tariffs : (v : ℕ)
      → Divides G runs share (local_metres runs v *ℤ pos G.settings.constant *ℤ pos G.settings.local_factor) 100000 (local_tariff G runs v)

-- each of these figures is what it was before this request, but at a half below zero; where a case has no such half, its sheet is therefore 01's
abbrev pub FiguresMove : Type 0
FiguresMove = (G : Grid) (runs : Runs) (share : List ℕ) (z : ℤ) (d : ℕ) (figure : ℤ) → Divides G runs share z d figure → 0 < d → (figure ≡ half_up z d) ⊎ NegativeHalf z d

-- ---- step 7: negating metres and then averaging is averaging and then negating
-- the nearest of the average of n nodes' metres m, each by its weight w
abbrev pub average : (n : ℕ) (m : ℕ → Metres) (w : ℕ → Kw) → Metres
average n m w = nearest (Σ n (λ v. m v *ℤ pos (w v))) (sum n w)

abbrev pub AveragesMirror : Type 0
AveragesMirror = (n : ℕ) (m : ℕ → Metres) (w : ℕ → Kw) → average n (λ v. neg_ℤ (m v)) w ≡ neg_ℤ (average n m w)

-- ---- a generation zone and a demand zone of one case
-- the same nodes and weights: each node weighs in both alike
abbrev pub WeighAlike : Grid → (g d : ℕ) → Type 0
WeighAlike G g d = (v : ℕ) → v < length G.nodes → weight_in G Generation g v ≡ weight_in G Demand d v

-- 02, request 6: where year round's metres are shared, generation's are divided and demand's are not; peak's stay whole
abbrev pub Whole : Grid → (share : List ℕ) → Background → Type 0
Whole G share YearRound = in_force G.settings.edition share ≡ false
Whole G share Peak = Unit {0}

-- have opposite figures in each background: m and -m, and where they are whole m + C and -m - C, and the tariffs of these
pub record Opposite (G : Grid) (runs : Runs) (share : List ℕ) (g d : ℕ) : Type 0 where
  pub metres : (b : Background) → zonal_metres G runs b Demand d ≡ neg_ℤ (zonal_metres G runs b Generation g)
  pub with_c : (b : Background) → Whole G share b → after_c G runs share b Demand d ≡ neg_ℤ (after_c G runs share b Generation g)
  pub tariffs : (b : Background) → Whole G share b → zone_tariff G runs share b Demand d ≡ neg_ℤ (zone_tariff G runs share b Generation g)

abbrev pub ZonesMirror : Type 0
ZonesMirror = (G : Grid) (runs : Runs) (share : List ℕ) (g d : ℕ) → WeighAlike G g d → Opposite G runs share g d

-- and their lines show it. A `G` line and a `D` line of two such zones; field 1 is the zone
pub record LinesAlike (G : Grid) (line line' : List ℕ) : Type 0 where
  pub generation : has_letter (letter Generation) line ≡ true
  pub demand : has_letter (letter Demand) line' ≡ true
  pub alike : WeighAlike G (read_natural 0 (field 1 line)) (read_natural 0 (field 1 line'))

-- the field of a `G` line where what is whole ends
abbrev pub whole_to : Form → ℕ
whole_to OneBackground = residual_field OneBackground
whole_to TwoBackgrounds = residual_field TwoBackgrounds
whole_to Sharing = metres_field Sharing YearRound

-- have opposite numbers in the fields before the residual, zonal metres, metres after C and tariff of each background, or of peak alone where year round's are shared; a line with `-` has none, and reads as 0
pub record ShowsMirror (G : Grid) (share sheet : List ℕ) : Type 0 where
  pub opposite : (i j k : ℕ) → LinesAlike G (line_at i sheet) (line_at j sheet) → 2 ≤ k → k < whole_to (form_of G share Generation)
      → read_whole (field k (line_at j sheet)) ≡ neg_ℤ (read_whole (field k (line_at i sheet)))

abbrev pub PrintedMirror : Type 0
PrintedMirror = (file : List ℕ) (runs : Runs) (share : List ℕ) → Acceptable file runs share → ShowsMirror (grid_of (study_of file)) share (sheet_of file runs share)

-- ---- a whole case and its mirror image
abbrev pub other : Side → Side
other Generation = Demand
other Demand = Generation

-- what weighs and pays on one side does so on the other, p is taken from 1000, and all wider and local potentials are turned round
pub record Exchanged (G G' : Grid) (runs runs' : Runs) : Type 0 where
  pub node_count : length G'.nodes ≡ length G.nodes
  pub zone_counts : (side : Side) → zones G' side ≡ zones G (other side)
  pub zones_of : (side : Side) (v : ℕ) → v < length G.nodes → zone_of G' side v ≡ zone_of G (other side) v
  pub weights : (side : Side) (v : ℕ) → v < length G.nodes → weight G' side v ≡ weight G (other side) v
  pub payers : (side : Side) (v : ℕ) → v < length G.nodes → paying G' side v ≡ paying G (other side) v
  pub payers_in : (b : Background) (side : Side) (v : ℕ) → v < length G.nodes → paying_in G' b side v ≡ paying_in G b (other side) v
  pub editions : G'.settings.edition ≡ G.settings.edition
  pub shares : G'.settings.p + G.settings.p ≡ 1000
  pub constants : G'.settings.constant ≡ G.settings.constant
  pub wider_factors : G'.settings.wider_factor ≡ G.settings.wider_factor
  pub local_factors : G'.settings.local_factor ≡ G.settings.local_factor
  pub potentials : (s : System) → OfDistances s → (v : ℕ) → v < length G.nodes → potential (runs' s) v ≡ neg_ℤ (potential (runs s) v)

-- C and the local figures are turned round, and what is printed of generation's zones is printed of demand's, where it is whole
pub record MirrorImage (G G' : Grid) (runs runs' : Runs) (share : List ℕ) : Type 0 where
  pub centre : (b : Background) → C G' runs' b ≡ neg_ℤ (C G runs b)
  pub metres : (b : Background) (side : Side) (zone : ℕ) → zonal_metres G' runs' b side zone ≡ zonal_metres G runs b (other side) zone
  pub with_c : (b : Background) → Whole G share b → (side : Side) (zone : ℕ) → after_c G' runs' share b side zone ≡ after_c G runs share b (other side) zone
  pub tariffs : (b : Background) → Whole G share b → (side : Side) (zone : ℕ) → zone_tariff G' runs' share b side zone ≡ zone_tariff G runs share b (other side) zone
  pub local_distances : (v : ℕ) → v < length G.nodes → local_metres runs' v ≡ neg_ℤ (local_metres runs v)
  pub local_tariffs : (v : ℕ) → v < length G.nodes → local_tariff G' runs' v ≡ neg_ℤ (local_tariff G runs v)

abbrev pub SidesMirror : Type 0
SidesMirror = (G G' : Grid) (runs runs' : Runs) (share : List ℕ) → Exchanged G G' runs runs' → MirrorImage G G' runs runs' share

-- and where the revenue is the same, local tariffs bring nothing in and no metres are shared, so are the other numbers of these lines, and the two remainders: all of the sheet but its `L` lines
pub record MoneyExchanged (G G' : Grid) (runs runs' : Runs) (share : List ℕ) : Type 0 where
  pub whole : Whole G share YearRound
  pub exchanged : Exchanged G G' runs runs'
  pub revenues : G'.settings.revenue ≡ G.settings.revenue
  pub no_local : local_income G runs Generation ≡ pos 0
  pub no_local' : local_income G' runs' Generation ≡ pos 0

pub record MoneyImage (G G' : Grid) (runs runs' : Runs) (share : List ℕ) : Type 0 where
  pub residuals : (side : Side) → residual G' runs' share side ≡ residual G runs share (other side)
  pub totals : (side : Side) (zone : ℕ) → zone_total G' runs' share side zone ≡ zone_total G runs share (other side) zone
  pub remainders : (side : Side) → remainder G' runs' share side ≡ remainder G runs share (other side)

abbrev pub MoneyMirrors : Type 0
MoneyMirrors = (G G' : Grid) (runs runs' : Runs) (share : List ℕ) → MoneyExchanged G G' runs runs' share → MoneyImage G G' runs runs' share
