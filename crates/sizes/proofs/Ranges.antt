-- What sound tables say of the grid that the figures are made from. Past this file nothing looks into a study.
use mathlib.Core.Path.{◌≡◌}
use Prim.Native.Nat.{ℕ, ◌≤◌, ◌<◌}
use native.Mathlib.Nat.{le_trans}
use native.Mathlib.Omega.{arith}
use lib.ListN.{length}
use Rattle.integers.specs.Numbers.{sum}
use Rattle.integers.proofs.Sum.{sum-le}
use Rattle.meaning.specs.Study.{Study, node, circuit}
use Rattle.meaning.specs.declared.Background.{Background}
use Rattle.meaning.specs.declared.Background.TheVariants.{YearRound, Peak}
use Rattle.meaning.specs.Editions.{Of}
use Rattle.meaning.specs.Grid.{Grid, grid_of, pays_in, total_tec, total_paying_tec, total_demand}
use Rattle.meaning.specs.Direction.{expanded_length}
use Rattle.meaning.specs.declared.Side.{Side}
use Rattle.meaning.specs.declared.Side.TheVariants.{Generation, Demand}
use Rattle.meaning.specs.Figures.{zones, zone_of, weight, paying, paying_in, total_paying, total_paying_in}
use Rattle.meaning.specs.Conditions.{InRange, Scalable, SoundTables, SoundStudy}
use Rattle.meaning.proofs.Plants.{node_pays, background_pays}
use Rattle.meaning.proofs.Generation.{peak_pays, scalable_in}
use Rattle.meaning.proofs.Lengths.{expanded_most}

pub record Ranged (G : Grid) : Type 0 where
  pub zones_most : (side : Side) → zones G side ≤ 32
  pub in_zone : (side : Side) (v : ℕ) → v < length G.nodes → InRange (zone_of G side v) 1 (zones G side)
  pub weighing : (side : Side) → sum (length G.nodes) (weight G side) ≤ 100000000
  pub payers : (side : Side) → InRange (total_paying G side) 1 100000000
  pub payers_in : (b : Background) → Of b G.settings.edition → (side : Side) → InRange (total_paying_in G b side) 1 100000000
  pub scalable : (b : Background) → Of b G.settings.edition → Scalable G b
  pub p : G.settings.p ≤ 1000
  pub constant : G.settings.constant ≤ 10000
  pub wider_factor : G.settings.wider_factor ≤ 5000
  pub local_factor : G.settings.local_factor ≤ 5000
  pub revenue : G.settings.revenue ≤ 10000000000
  pub names : (v : ℕ) → v < length G.nodes → length (node G.nodes v).name ≡ 12
  pub expanded : (c : ℕ) → c < length G.circuits → expanded_length G.settings (circuit G.circuits c) ≤ 30000000000

-- what pays is among what weighs, and what pays in a background among what pays
pays_most : (G : Grid) → total_demand G ≤ 100000000 → total_tec G ≤ 100000000 → (side : Side) → total_paying G side ≤ 100000000
unfolding total_paying paying
pays_most G d t Generation = le_trans (sum-le (length G.nodes) _ _ (λ v h. node_pays G v)) t
pays_most G d t Demand = d

pub node_in : (G : Grid) (b : Background) (side : Side) (v : ℕ) → paying_in G b side v ≤ paying G side v
unfolding paying paying_in
node_in G b Generation v = background_pays G v b
node_in G b Demand v = omega arith

pub in_all_lem : (G : Grid) (b : Background) (side : Side) → total_paying_in G b side ≤ total_paying G side
unfolding total_paying total_paying_in
in_all_lem G b side = sum-le (length G.nodes) _ _ (λ v h. node_in G b side v)

-- the divisors of C and of the residuals: each side has kilowatts that pay, generation by 13 and demand by 7
some_pays : (G : Grid) → 1 ≤ total_demand G → 1 ≤ total_paying_tec G → (side : Side) → 1 ≤ total_paying G side
unfolding total_paying paying
some_pays G d t Generation = t
some_pays G d t Demand = d

-- and in peak too, by 14
some_pays_in : (G : Grid) (b : Background) → Of b G.settings.edition → Scalable G b → 1 ≤ total_demand G → 1 ≤ total_paying_tec G → (side : Side) → 1 ≤ total_paying_in G b side
unfolding total_paying_in paying_in pays_in
some_pays_in G YearRound h s d t Generation = t
some_pays_in G Peak h s d t Generation = le_trans d (peak_pays G h s)
some_pays_in G b h s d t Demand = d

pub ranged : (S : Study) → SoundStudy S → Ranged (grid_of S)
unfolding grid_of zones zone_of weight
ranged S study = record {
  zones_most = zones_most;
  in_zone = in_zone;
  weighing = weighing;
  payers = payers;
  payers_in = λ b h side. record {
    least = some_pays_in (grid_of S) b h (scalable_in S study b h) sound.totals.demand_total.least study.chargeable side;
    most = le_trans (in_all_lem (grid_of S) b side) (payers side).most;
  };
  scalable = scalable_in S study;
  p = sound.settings.p;
  constant = sound.settings.constant.most;
  wider_factor = sound.settings.wider_factor.most;
  local_factor = sound.settings.local_factor.most;
  revenue = sound.settings.revenue;
  names = λ v h. (sound.nodes v h).name.long;
  expanded = λ c h. expanded_most S.settings (length S.nodes) sound.settings S c (sound.circuits c h);
}
  where
    sound : SoundTables S
    sound = study.tables

    payers : (side : Side) → InRange (total_paying (grid_of S) side) 1 100000000
    payers side = record {
      least = some_pays (grid_of S) sound.totals.demand_total.least study.chargeable side;
      most = pays_most (grid_of S) sound.totals.demand_total.most sound.totals.tec_total.most side;
    }

    zones_most : (side : Side) → zones (grid_of S) side ≤ 32
    zones_most Generation = sound.settings.generation_zones.most
    zones_most Demand = sound.settings.demand_zones.most

    in_zone : (side : Side) (v : ℕ) → v < length S.nodes → InRange (zone_of (grid_of S) side v) 1 (zones (grid_of S) side)
    in_zone Generation v h = (sound.nodes v h).generation_zone
    in_zone Demand v h = (sound.nodes v h).demand_zone

    weighing : (side : Side) → sum (length S.nodes) (weight (grid_of S) side) ≤ 100000000
    weighing Generation = sound.totals.tec_total.most
    weighing Demand = sound.totals.demand_total.most
