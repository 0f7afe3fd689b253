-- 01, steps 6 to 10 of a case: what `Charging` asks, from the grid, the share file and the proposals. Generation and demand are two sides with the same steps.
use Rattle.std.specs.Prelude.{Bool, true, false, not, cond, List, [], ℕ, suc, ◌*◌, ◌-◌, ◌/◌, ℤ, pos, length, get_or}
use Rattle.std.proofs.Math.Option.{Option, none, some}
use Rattle.integers.specs.Numbers.{sum}
use Rattle.meaning.specs.declared.Side.{Side}
use Rattle.meaning.specs.declared.Side.TheVariants.{Generation, Demand}
use Rattle.meaning.specs.declared.ZoneFigures.{ZoneFigures}
use Rattle.meaning.specs.declared.LocalFigures.{LocalFigures}
use Rattle.meaning.specs.declared.Form.{Form}
use Rattle.meaning.specs.declared.Form.TheVariants.{OneBackground, TwoBackgrounds}
use Rattle.meaning.specs.declared.Form.TheVariants as form
use Rattle.meaning.specs.Answers.{Judgement}
use Rattle.meaning.specs.declared.Plant.{Plant}
use Rattle.meaning.specs.declared.Plant.TheVariants.{Intermittent, NuclearAndCcs, Interconnector, Hydro, PumpedStorage, Peaking, Other}
use Rattle.meaning.specs.declared.Background.{Background}
use Rattle.meaning.specs.declared.System.{System}
use Rattle.meaning.specs.declared.System.TheVariants.{Wider, Local}
use Rattle.meaning.specs.Editions.{by_edition}
use Rattle.meaning.specs.Answers.{when}
use Rattle.meaning.specs.Study.{Kw, Metres, MicroPerKw, Runs, node}
use Rattle.meaning.specs.Grid.{Grid, plant_of, pays, tec_of, node_tec, paying_tec, paying_tec_in, node_demand}
use Rattle.meaning.specs.Proposal.{potential}
use Rattle.meaning.specs.Sharing.{Sharing, in_force, next_inward, load_factor, share_file_stage}
use Rattle.meaning.specs.Charging.{metres, turned, in_zone, weighed_in, average_of, target_of, Basis, Priced}
use Rattle.meaning.specs.Charging as charging

-- step 6: metres of node v by a system of distances, a wider or the local one
abbrev pub metres_by : System → Runs → ℕ → Metres
metres_by s runs v = metres (potential (runs s) v)

unfoldable pub wider_metres : Runs → Background → ℕ → Metres
wider_metres runs b = metres_by (Wider b) runs

unfoldable pub local_metres : Runs → ℕ → Metres
local_metres = metres_by Local

-- (CUSC 14.15.13) its distance on a side, in a background
unfoldable pub distance : Runs → Background → Side → ℕ → Metres
distance runs b side v = turned side (wider_metres runs b v)

-- 02, request 6: "low carbon TEC (types 1, 2, 4) and carbon TEC (the rest)"
unfoldable pub low_carbon : Plant → Bool
low_carbon Intermittent = true
low_carbon NuclearAndCcs = true
low_carbon Interconnector = false
low_carbon Hydro = true
low_carbon PumpedStorage = false
low_carbon Peaking = false
low_carbon Other = false

module _ (G : Grid) where
  open G use {settings, nodes, capacity}

  -- zones 1, 2, .. of a side, and the zone of node v
  unfoldable pub zones : Side → ℕ
  zones Generation = settings.generation_zones
  zones Demand = settings.demand_zones

  unfoldable pub zone_of : Side → ℕ → ℕ
  zone_of Generation v = (node nodes v).generation_zone
  zone_of Demand v = (node nodes v).demand_zone

  -- step 7 (CUSC 14.22(i), 14.23(i)): kilowatts of node v that weigh, "generation weighted by TEC, demand by demand"
  unfoldable pub weight : Side → ℕ → Kw
  weight Generation v = node_tec G v
  weight Demand v = node_demand G v

  -- steps 8 and 10: kilowatts of node v that pay. 02, request 1: type 3 TEC "leaves both generation terms of C, wider and local income, and the residual's divisor"
  unfoldable pub paying : Side → ℕ → Kw
  paying Generation v = paying_tec G v
  paying Demand v = node_demand G v

  -- and of these, in a background: 02, request 5, "Peak's income and C count every chargeable type but 1"
  unfoldable pub paying_in : Background → Side → ℕ → Kw
  paying_in b Generation v = paying_tec_in b G v
  paying_in b Demand v = node_demand G v

  -- the same of a zone, and in all
  unfoldable pub zone_weight : Side → ℕ → Kw
  zone_weight side = in_zone (length nodes) (zone_of side) (weight side)

  unfoldable pub zone_paying : Side → ℕ → Kw
  zone_paying side = in_zone (length nodes) (zone_of side) (paying side)

  unfoldable pub zone_paying_in : Background → Side → ℕ → Kw
  zone_paying_in b side = in_zone (length nodes) (zone_of side) (paying_in b side)

  unfoldable pub total_paying : Side → Kw
  total_paying side = sum (length nodes) (paying side)

  unfoldable pub total_paying_in : Background → Side → Kw
  total_paying_in b side = sum (length nodes) (paying_in b side)

  -- a price or a distance of each zone, times the kilowatts that pay in a background, over the zones of a side
  abbrev pub over_zones : Background → Side → (ℕ → ℤ) → ℤ
  over_zones b side = charging.over_zones (zones side) (zone_paying_in b side)

  -- ---- 02, request 6: what a share file says of the case
  -- a generation zone's TEC of the plant types that pass a test, and of one
  unfoldable pub zone_tec_of : (Plant → Bool) → (zone : ℕ) → Kw
  zone_tec_of test = in_zone (length nodes) (zone_of Generation) (tec_of test G)

  unfoldable pub zone_tec : (zone plant_type : ℕ) → Kw
  zone_tec zone plant_type = in_zone (length nodes) (zone_of Generation) (λ v. get_or (get_or capacity v []) (plant_type - 1) 0) zone

  -- "the zone's chargeable TEC of each type times that load factor, added up and rounded down to a kilowatt"
  unfoldable pub loaded_kw : (factor : (plant_type : ℕ) → ℕ) → (zone : ℕ) → Kw
  loaded_kw factor zone = sum 7 (λ t. cond (pays (plant_of (suc t))) (zone_tec zone (suc t) * factor (suc t)) 0) / 1000

  module _ (share : List ℕ) where
    -- 16, where the file is in force; a zone has TEC where its line has figures
    unfoldable pub share_stage : Judgement
    share_stage = when (in_force settings.edition share) (share_file_stage share (zones Generation) (zone_weight Generation))

    unfoldable pub sharing : Option Sharing
    sharing =
        cond (in_force settings.edition share) (
        some (record {
          zones = zones Generation;
          next = next_inward share (zones Generation);
          low = zone_tec_of low_carbon;
          carbon = zone_tec_of (λ plant. not (low_carbon plant));
          kw = loaded_kw (load_factor share (zones Generation));
        })) none

    -- the form of a side's lines: "Year round's three on a `G` line become .., with shared metres and tariff after them"
    unfoldable pub form_of : Side → Form
    form_of Generation = cond (in_force settings.edition share) form.Sharing (by_edition OneBackground TwoBackgrounds settings.edition)
    form_of Demand = by_edition OneBackground TwoBackgrounds settings.edition

  -- step 10: targets in micro-pounds
  abbrev pub target : Side → ℤ
  target side = pos (target_of side settings.p settings.revenue)

  module _ (runs : Runs) where
    -- step 7: zonal metres
    unfoldable pub zonal_metres : Background → Side → ℕ → Metres
    zonal_metres b side zone = average_of (weighed_in (length nodes) (zone_of side) (distance runs b side) (weight side) zone) (zone_weight side zone)

    -- what steps 8 to 10 ask
    unfoldable pub basis : Basis
    basis =
        record {
          settings = settings;
          side = λ b side. record { count = zones side; weight = zone_weight side; paying = zone_paying_in b side; metres = zonal_metres b side; total = total_paying_in b side };
          payers = total_paying;
          nodes = length nodes;
          tec = node_tec G;
          paying = paying_tec G;
          local = local_metres runs;
        }

    -- and what they answer, by name
    abbrev pub C : Background → Metres
    C = charging.C basis

    abbrev pub local_tariff : (v : ℕ) → MicroPerKw
    local_tariff = charging.local_tariff basis

    abbrev pub local_income : Side → ℤ
    local_income = charging.local_income basis

    abbrev pub local_figures : (v : ℕ) → LocalFigures
    local_figures = charging.local_figures basis

    -- with a share file, of any bytes
    module _ (share : List ℕ) where
      abbrev pub priced : Side → Priced
      priced = charging.priced basis (sharing share)

      abbrev pub own_metres : Background → Side → (zone : ℕ) → Metres
      own_metres b side = charging.own_metres (priced side) b

      abbrev pub after_c : Background → Side → (zone : ℕ) → Metres
      after_c b side = charging.after_c (priced side) b

      abbrev pub zone_tariff : Background → Side → (zone : ℕ) → MicroPerKw
      zone_tariff b side = charging.zone_tariff (priced side) b

      abbrev pub shared_of : Side → (zone : ℕ) → Metres
      shared_of side = charging.shared_of (priced side)

      abbrev pub shared_tariff : Side → (zone : ℕ) → MicroPerKw
      shared_tariff side = charging.shared_tariff (priced side)

      abbrev pub rest : Side → ℤ
      rest side = charging.rest (priced side)

      abbrev pub residual : Side → MicroPerKw
      residual side = charging.residual (priced side)

      abbrev pub remainder : Side → ℤ
      remainder side = charging.remainder (priced side)

      abbrev pub zone_total : Side → (zone : ℕ) → MicroPerKw
      zone_total side = charging.zone_total (priced side)

      abbrev pub zone_figures : Side → (zone : ℕ) → ZoneFigures
      zone_figures side = charging.zone_figures (priced side)
