-- 01, steps 6 to 10, each over the numbers it needs. `Figures` says them of a case; the code that works them out cites them here.
use Rattle.std.specs.Prelude.{cond, ℕ, suc, ◌+◌, ◌*◌, ◌-◌, eqb, ℤ, pos, neg_ℤ, ◌+ℤ◌, ◌-ℤ◌, ◌*ℤ◌}
use Rattle.std.proofs.Math.Option.{Option}
use Rattle.integers.specs.Numbers.{sum, Σ, floor_div, nearest}
use Rattle.meaning.specs.declared.Edition.{Edition}
use Rattle.meaning.specs.declared.Background.{Background}
use Rattle.meaning.specs.declared.Background.TheVariants.{YearRound, Peak}
use Rattle.meaning.specs.declared.Side.{Side}
use Rattle.meaning.specs.declared.Side.TheVariants.{Generation, Demand}
use Rattle.meaning.specs.declared.Settings.{Settings}
use Rattle.meaning.specs.declared.WiderFigures.{WiderFigures}
use Rattle.meaning.specs.declared.SharedFigures.{SharedFigures}
use Rattle.meaning.specs.declared.ZoneFigures.{ZoneFigures}
use Rattle.meaning.specs.declared.LocalFigures.{LocalFigures}
use Rattle.meaning.specs.Editions.{by_edition, over_backgrounds}
use Rattle.meaning.specs.Study.{Kw, Metres, MicroPerKw}
use Rattle.meaning.specs.Sharing.{Sharing, not_shared_metres, shared_metres, shared_kw, sharing_on}

-- step 6 (CUSC 14.15.4, 14.15.13): "the nearest of potential / 1,000,000,000"
unfoldable pub metres : (nanometres : ℤ) → Metres
metres nanometres = nearest nanometres 1000000000

-- "A demand node's distance is the negative of its rounded wider one"
abbrev pub turned : Side → Metres → Metres
turned Generation m = m
turned Demand m = neg_ℤ m

-- step 7: what the nodes of a zone add up to, of n nodes: kilowatts, and distances times kilowatts
abbrev pub in_zone : (n : ℕ) (zone_of : ℕ → ℕ) → (kw : ℕ → Kw) → (zone : ℕ) → Kw
in_zone n zone_of kw zone = sum n (λ v. cond (eqb (zone_of v) zone) (kw v) 0)

abbrev pub weighed_in : (n : ℕ) (zone_of : ℕ → ℕ) → (distance : ℕ → Metres) → (weight : ℕ → Kw) → (zone : ℕ) → ℤ
weighed_in n zone_of distance weight zone = Σ n (λ v. cond (eqb (zone_of v) zone) (distance v *ℤ pos (weight v)) (pos 0))

-- "the nearest of the average over the zone's nodes" (CUSC 14.22(ii), 14.23(ii))
abbrev pub average_of : (weighed : ℤ) → (weight : Kw) → Metres
average_of weighed weight = nearest weighed weight

-- step 8: a price or a distance of each zone, times the kilowatts that pay, over the zones of a side
abbrev pub over_zones : (zones : ℕ) → (paying : ℕ → Kw) → (ℕ → ℤ) → ℤ
over_zones zones paying f = Σ zones (λ k. f (suc k) *ℤ pos (paying (suc k)))

-- "C is the nearest of ((1000-p) x sum of demand zone metres times kW, less p x sum of generation zone metres times kW) /
-- (p x total TEC + (1000-p) x total demand)" (CUSC 14.15.63, 14.15.64)
abbrev pub centre : (p : ℕ) → (generation demand : ℤ) → (tec load : Kw) → Metres
centre p generation demand tec load = nearest (pos (1000 - p) *ℤ demand -ℤ pos p *ℤ generation) (p * tec + (1000 - p) * load)

-- "Generation zones add C, demand zones subtract it."
abbrev pub with_c : Side → (c m : Metres) → Metres
with_c Generation c m = m +ℤ c
with_c Demand c m = m -ℤ c

-- step 9 (CUSC 14.15.60, 14.15.61): "the nearest of metres x constant x security factor / 100,000"
unfoldable pub tariff : Metres → (constant factor : ℕ) → MicroPerKw
tariff m constant factor = nearest (m *ℤ pos constant *ℤ pos factor) 100000

-- step 10: "Demand's target in micro-pounds is revenue x p x 1,000; generation's is revenue x (1000-p) x 1,000."
abbrev pub target_of : Side → (p revenue : ℕ) → ℕ
target_of Generation p revenue = revenue * (1000 - p) * 1000
target_of Demand p revenue = revenue * p * 1000

-- "its target less wider income (zone tariffs times TEC) and local income"
abbrev pub rest_of : (target : ℕ) → (wider local : ℤ) → ℤ
rest_of target wider local = pos target -ℤ wider -ℤ local

-- (CUSC 14.22(vi), 14.23(v)): "rest / total kW rounded down (also below zero)", and "what is left"
unfoldable pub residual_of : (rest : ℤ) → Kw → MicroPerKw
residual_of rest kw = floor_div rest kw

unfoldable pub remainder_of : (rest : ℤ) → Kw → ℤ
remainder_of rest kw = rest -ℤ residual_of rest kw *ℤ pos kw

-- 01, The sheet: what the line of a zone says of a background; where there is none, nothing
abbrev pub wider_of : (zonal after : Metres) → (tariff : MicroPerKw) → WiderFigures
wider_of zonal after tariff = record { metres = record { 0 = zonal }; after_c = record { 0 = after }; tariff = record { 0 = tariff } }

abbrev pub no_wider : WiderFigures
no_wider = wider_of (pos 0) (pos 0) (pos 0)

-- and of the shared metres (02, request 6)
abbrev pub shared_by : (shared : Metres) → (tariff : MicroPerKw) → SharedFigures
shared_by shared tariff = record { metres = record { 0 = shared }; tariff = record { 0 = tariff } }

abbrev pub no_shared : SharedFigures
no_shared = shared_by (pos 0) (pos 0)

-- ---- a case
-- what step 7 hands on of a side in a background: how many zones there are; of each, by its number, the kilowatts that weigh, those that pay and the zonal metres; and the kilowatts that pay in all
pub record Zones : Type 0 where
  pub count : ℕ
  pub weight : ℕ → Kw
  pub paying : ℕ → Kw
  pub metres : ℕ → Metres
  pub total : Kw

-- all that steps 8 to 10 ask of a case: settings; the zones of its sides in each background; of each side the kilowatts that pay, and of each node TEC, the TEC that pays and local metres
pub record Basis : Type 0 where
  pub settings : Settings
  pub side : Background → Side → Zones
  pub payers : Side → Kw
  pub nodes : ℕ
  pub tec : ℕ → Kw
  pub paying : ℕ → Kw
  pub local : ℕ → Metres

-- what prices a side: edition; zones and C in each background; what is shared of it; the kilowatts that pay; expansion constant and security factor, its target, and the income of its local tariffs
pub record Priced : Type 0 where
  pub edition : Edition
  pub side : Side
  pub zones : Background → Zones
  pub sharing : Option Sharing
  pub c : Background → Metres
  pub payers : Kw
  pub constant : ℕ
  pub factor : ℕ
  pub target : ℕ
  pub local : ℤ

-- step 8: "sum of zone metres times kW"
abbrev pub metres_times_kw : Zones → ℤ
metres_times_kw Z = over_zones Z.count Z.paying Z.metres

module _ (B : Basis) where
  open B use {settings, side, payers, nodes, tec, paying, local}

  -- 02, request 5: "Each background has its own C and tariff"
  unfoldable pub C : Background → Metres
  C b = centre settings.p (metres_times_kw (side b Generation)) (metres_times_kw (side b Demand)) (side b Generation).total (side b Demand).total

  -- step 9 (CUSC 14.15.65): "Local tariffs use the node's local metres and the local factor, without C."
  unfoldable pub local_tariff : (v : ℕ) → MicroPerKw
  local_tariff v = tariff (local v) settings.constant settings.local_factor

  -- step 10 (CUSC 14.15.72): "node local tariffs times TEC", of the TEC that pays; demand has none
  unfoldable pub local_income : Side → ℤ
  local_income Generation = Σ nodes (λ v. local_tariff v *ℤ pos (paying v))
  local_income Demand = pos 0

  -- 02, request 6: with what a share file in force says
  unfoldable pub priced : Option Sharing → Side → Priced
  priced sharing s =
      record {
        edition = settings.edition;
        side = s;
        zones = λ b. side b s;
        sharing = sharing_on s sharing;
        c = C;
        payers = payers s;
        constant = settings.constant;
        factor = settings.wider_factor;
        target = target_of s settings.p settings.revenue;
        local = local_income s;
      }

  -- 01, The sheet: what the line of a node says
  unfoldable pub local_figures : (v : ℕ) → LocalFigures
  local_figures v = record { tec = record { 0 = tec v }; metres = record { 0 = local v }; tariff = record { 0 = local_tariff v } }

-- ---- a side of it
module _ (S : Priced) where
  open S use {edition, side, zones, sharing, c, payers, constant, factor, target, local}

  -- zonal metres that the zone's tariff is of; 02, request 6: year round's "become not-shared metres, these plus C and their tariff"
  unfoldable pub own_metres : Background → (zone : ℕ) → Metres
  own_metres YearRound zone = not_shared_metres sharing (zones YearRound).metres zone
  own_metres Peak zone = (zones Peak).metres zone

  module _ (b : Background) where
    -- step 8: metres after C
    unfoldable pub after_c : (zone : ℕ) → Metres
    after_c zone = with_c side (c b) (own_metres b zone)

    -- step 9
    unfoldable pub zone_tariff : (zone : ℕ) → MicroPerKw
    zone_tariff zone = tariff (after_c zone) constant factor

    -- step 10: what the tariffs of a background bring in
    abbrev pub income_in : ℤ
    income_in = over_zones (zones b).count (zones b).paying zone_tariff

    -- what the line of a zone says of it
    unfoldable pub wider_figures : (zone : ℕ) → WiderFigures
    wider_figures zone = wider_of (own_metres b zone) (after_c zone) (zone_tariff zone)

  -- 02, request 6: "shared metres and tariff", without C
  unfoldable pub shared_of : (zone : ℕ) → Metres
  shared_of zone = shared_metres sharing (zones YearRound).metres zone

  unfoldable pub shared_tariff : (zone : ℕ) → MicroPerKw
  shared_tariff zone = tariff (shared_of zone) constant factor

  -- "The shared tariff is charged on the zone's chargeable TEC of each type times that load factor"
  abbrev pub shared_income : ℤ
  shared_income = over_zones (zones YearRound).count (shared_kw sharing) shared_tariff

  -- "wider income (zone tariffs times TEC)"; "demand 2's income counts it so"
  abbrev pub wider_income : ℤ
  wider_income = over_backgrounds edition income_in +ℤ shared_income

  unfoldable pub rest : ℤ
  rest = rest_of target wider_income local

  -- 02, request 5: "Residuals stay."
  unfoldable pub residual : MicroPerKw
  residual = residual_of rest payers

  unfoldable pub remainder : ℤ
  remainder = remainder_of rest payers

  -- step 10 (CUSC 14.22(vii), 14.23(vi)): "A zone's total is its tariff plus the residual."; 02, request 5: "a total adds both and the residual";
  -- request 6: "the total leaves the shared tariff out"
  unfoldable pub zone_total : (zone : ℕ) → MicroPerKw
  zone_total zone = over_backgrounds edition (λ b. zone_tariff b zone) +ℤ residual

  -- what the line of a zone says
  unfoldable pub zone_figures : (zone : ℕ) → ZoneFigures
  zone_figures zone =
      record {
        weight = record { 0 = (zones YearRound).weight zone };
        year_round = wider_figures YearRound zone;
        peak = by_edition no_wider (wider_figures Peak zone) edition;
        shared = shared_by (shared_of zone) (shared_tariff zone);
        total = record { 0 = zone_total zone };
      }
