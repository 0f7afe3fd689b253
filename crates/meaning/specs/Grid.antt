-- A study with its stations added up: all that the later steps see. How a node's capacity is divided among stations is gone.
use Rattle.std.specs.Prelude.{Bool, true, false, cond, ◌&&◌, List, [], ℕ, suc, eqb, leb, length, get_or}
use Rattle.std.proofs.Math.Option
use Rattle.integers.specs.Numbers.{sum}
use Rattle.meaning.specs.Rows.{◌between◌and◌, lowest, rows}
use Rattle.meaning.specs.Name.{Name, same_name}
use Rattle.meaning.specs.declared.Settings.{Settings}
use Rattle.meaning.specs.Study.{Kw, Node, Circuit, Station, Study, node, station}
use Rattle.meaning.specs.declared.Background.{Background}
use Rattle.meaning.specs.declared.Background.TheVariants.{YearRound, Peak}
use Rattle.meaning.specs.declared.Plant.{Plant}
use Rattle.meaning.specs.declared.Plant.TheVariants.{Intermittent, NuclearAndCcs, Interconnector, Hydro, PumpedStorage, Peaking, Other}
use Rattle.meaning.specs.Answers.{Judgement}
use Rattle.meaning.specs.declared.Refusal.TheVariants.{BadTotal, NoChargeableTec}
use Rattle.meaning.specs.Answers.{unless}

-- 01, The case file (CUSC 14.15.7 of the later edition): plant types 1 to 7 "are the rows of the table in 14.15.7, in order"
unfoldable pub plant_of : (plant_type : ℕ) → Plant
plant_of t =
    cond (eqb t 1) Intermittent
    (cond (eqb t 2) NuclearAndCcs
    (cond (eqb t 3) Interconnector (cond (eqb t 4) Hydro (cond (eqb t 5) PumpedStorage (cond (eqb t 6) Peaking Other)))))

-- whether the TEC of a plant type pays (steps 8 and 10): 02, request 1, "Interconnectors don't pay"
unfoldable pub pays : Plant → Bool
pays Intermittent = true
pays NuclearAndCcs = true
pays Interconnector = false
pays Hydro = true
pays PumpedStorage = true
pays Peaking = true
pays Other = true

-- and whether it does in a background: 02, request 5, "Peak's income and C count every chargeable type but 1"
unfoldable pub pays_in : Background → Plant → Bool
pays_in YearRound plant = pays plant
pays_in Peak Intermittent = false
pays_in Peak NuclearAndCcs = true
pays_in Peak Interconnector = false
pays_in Peak Hydro = true
pays_in Peak PumpedStorage = true
pays_in Peak Peaking = true
pays_in Peak Other = true

pub record Grid : Type 0 where
  pub settings : Settings
  pub nodes : List Node
  pub circuits : List Circuit
  pub capacity : List (List Kw)

-- the number of the node of that name; the count of nodes where there is none
unfoldable pub place : List Node → Name → ℕ
place nodes name = Option.get_or (lowest (λ v. same_name (node nodes v).name name) (length nodes)) (length nodes)

-- the TEC that a station adds to node v and a plant type
unfoldable pub tec_at : List Node → Station → (v plant_type : ℕ) → Kw
tec_at nodes s v plant_type = cond (eqb (place nodes s.node) v && eqb s.plant_type plant_type) s.tec 0

-- TEC at node v of a plant type: the sum over its stations
unfoldable pub capacity_of : Study → (v plant_type : ℕ) → Kw
capacity_of S v plant_type = sum (length S.stations) (λ k. tec_at S.nodes (station S.stations k) v plant_type)

-- for each node a list of seven, one a plant type
unfoldable pub grid_of : Study → Grid
grid_of S =
    record {
      settings = S.settings;
      nodes = S.nodes;
      circuits = S.circuits;
      capacity = rows (length S.nodes) (λ v. rows 7 (λ t. capacity_of S v (suc t)));
    }

-- something of each plant type at node v, by the type and its TEC there, added up
unfoldable pub over_types : (Plant → Kw → Kw) → Grid → ℕ → Kw
over_types part G v = sum 7 (λ t. part (plant_of (suc t)) (get_or (get_or G.capacity v []) t 0))

-- TEC at node v of the plant types that pass a test
abbrev pub tec_of : (Plant → Bool) → Grid → ℕ → Kw
tec_of test = over_types (λ plant kw. cond (test plant) kw 0)

-- step 1, "Node TEC is the sum over its stations": all of it weighs (step 7); 02, request 1: "Type 3 TEC stays in scaling and zonal weights"
abbrev pub node_tec : Grid → ℕ → Kw
node_tec = over_types (λ plant kw. kw)

-- the TEC that pays, "chargeable kilowatts"; and what of it pays in a background
abbrev pub paying_tec : Grid → ℕ → Kw
paying_tec = tec_of pays

abbrev pub paying_tec_in : Background → Grid → ℕ → Kw
paying_tec_in b = tec_of (pays_in b)

abbrev pub node_demand : Grid → ℕ → Kw
node_demand G v = (node G.nodes v).demand

abbrev pub total_tec : Grid → Kw
total_tec G = sum (length G.nodes) (node_tec G)

abbrev pub total_paying_tec : Grid → Kw
total_paying_tec G = sum (length G.nodes) (paying_tec G)

abbrev pub total_demand : Grid → Kw
total_demand G = sum (length G.nodes) (node_demand G)

-- 01, What stops a case, 7: "a total outside its range, or total TEC below total demand"
unfoldable pub sound_totals : (demand tec : Kw) → Bool
sound_totals demand tec = demand between 1 and 100000000 && tec between 1 and 100000000 && leb demand tec

unfoldable pub totals_stage : Grid → Judgement
totals_stage G = unless (sound_totals (total_demand G) (total_tec G)) BadTotal

-- 02, request 1: "13, system 0 row 0, no chargeable TEC, after 7"
unfoldable pub chargeable_stage : Grid → Judgement
chargeable_stage G = unless (leb 1 (total_paying_tec G)) NoChargeableTec
