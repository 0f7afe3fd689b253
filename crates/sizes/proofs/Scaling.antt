-- 01, steps 1, 3 and 4: scaled generation is at most the TEC, so supplies are small; signed lengths.
use mathlib.Core.List.{[]}
use Prim.Native.Nat.{ℕ, suc, ◌*◌, ◌≤◌, ◌<◌}
use native.Mathlib.Nat.{le_refl, le_trans, mul-le-mul}
use native.Mathlib.Omega.{arith}
use lib.IntN.{ℤ, pos, nat_abs, ◌-ℤ◌}
use lib.ListN.{length, get_or}
use Rattle.integers.proofs.Core.{Z}
use Rattle.integers.proofs.Laws.{abs_neg, abs-mul-le}
use Rattle.meaning.specs.Study.{Runs, circuit}
use Rattle.meaning.specs.Grid.{Grid, grid_of, plant_of, over_types, node_tec, node_demand}
use Rattle.meaning.specs.declared.Edition.{Edition}
use Rattle.meaning.specs.declared.Edition.TheVariants.{First, Second}
use Rattle.meaning.specs.declared.Background.TheVariants.{YearRound, Peak}
use Rattle.meaning.specs.declared.Plant.{Plant}
use Rattle.meaning.specs.declared.Plant.TheVariants.{Intermittent, NuclearAndCcs, Interconnector, Hydro, PumpedStorage, Peaking, Other}
use Rattle.meaning.specs.declared.Background.{Background}
use Rattle.meaning.specs.Generation.{runs_as, fixed_kw, variable_tec, remaining, generation, net}
use Rattle.meaning.specs.Editions.{Of}
use Rattle.integers.specs.Numbers.{sum}
use Rattle.integers.proofs.Sum.{sum-le, sum_part, sum_item}
use Rattle.meaning.specs.declared.Direction.{Direction}
use Rattle.meaning.specs.declared.Direction.TheVariants.{Idle, Forward, Backward, InDoubt}
use Rattle.meaning.specs.Direction.{signed, signed_length, expanded_length}
use Rattle.meaning.specs.declared.System.TheVariants.{Base}
use Rattle.meaning.specs.Systems.{supply, heading, length_of}
use Rattle.meaning.specs.declared.Side.TheVariants.{Generation, Demand}
use Rattle.meaning.specs.Figures.{weight}
use Rattle.meaning.proofs.Generation.{scaled_fits, node_runs, remaining_fits, generation_total, generation_most}
use Rattle.sizes.specs.Bounds.{percent_of, SystemsFit, SystemsAlwaysFit}
use Rattle.sizes.proofs.Ranges.{Ranged, ranged}
use Rattle.sizes.proofs.Kilowatts.{kilowatts}

-- the difference of two numbers that are within b is within b
difference : (a c b : ℕ) → a ≤ b → c ≤ b → nat_abs (pos a -ℤ pos c) ≤ b
difference a c b h k = simp Z (omega arith)

signed_within : (d : Direction) (z : ℤ) (b : ℕ) → nat_abs z ≤ b → nat_abs (signed d z) ≤ b
unfolding signed
signed_within Idle z b h = omega arith
signed_within Forward z b h = h
signed_within Backward z b h = rw (abs_neg z) h
signed_within InDoubt z b h = omega arith

-- the table in 14.15.7 has no percentage above 100
percent_most : (e : Edition) (b : Background) (plant : Plant) → percent_of (runs_as e b plant) ≤ 100
unfolding runs_as percent_of
percent_most First b plant = omega arith
percent_most Second Peak Intermittent = omega arith
percent_most Second Peak NuclearAndCcs = omega arith
percent_most Second Peak Interconnector = omega arith
percent_most Second Peak Hydro = omega arith
percent_most Second Peak PumpedStorage = omega arith
percent_most Second Peak Peaking = omega arith
percent_most Second Peak Other = omega arith
percent_most Second YearRound Intermittent = omega arith
percent_most Second YearRound NuclearAndCcs = omega arith
percent_most Second YearRound Interconnector = omega arith
percent_most Second YearRound Hydro = omega arith
percent_most Second YearRound PumpedStorage = omega arith
percent_most Second YearRound Peaking = omega arith
percent_most Second YearRound Other = omega arith

module _ (G : Grid) (r : Ranged G) where
  tec_most : (v : ℕ) → v < length G.nodes → node_tec G v ≤ 100000000
  unfolding weight
  tec_most v h = (kilowatts G r).node_weighs Generation v h

  demand_most : (v : ℕ) → v < length G.nodes → node_demand G v ≤ 100000000
  unfolding weight
  demand_most v h = (kilowatts G r).node_weighs Demand v h

  all_most : sum (length G.nodes) (node_tec G) ≤ 100000000
  unfolding weight
  all_most = r.weighing Generation

  type_most_lem : (v t : ℕ) → v < length G.nodes → t < 7 → get_or (get_or G.capacity v []) t 0 ≤ 100000000
  unfolding over_types
  type_most_lem v t h l = le_trans (sum_item 7 t (λ t. get_or (get_or G.capacity v []) t 0) l) (tec_most v h)

  fixed_most_lem : (b : Background) (v : ℕ) → fixed_kw G b v ≤ node_tec G v
  fixed_most_lem b v = omega (arith, node_runs G b v)

  variable_most_lem : (b : Background) (v : ℕ) → variable_tec G b v ≤ node_tec G v
  variable_most_lem b v = omega (arith, node_runs G b v)

  -- no part of what is at most the TEC is above the TEC in all
  to_most : (f : ℕ → ℕ) → ((v : ℕ) → f v ≤ node_tec G v) → (k : ℕ) → k ≤ length G.nodes → sum k f ≤ 100000000
  to_most f least k h = le_trans (sum_part k (length G.nodes) f h) (le_trans (sum-le (length G.nodes) f (node_tec G) (λ v l. least v)) all_most)

  module _ (b : Background) (h : Of b G.settings.edition) where
    shared_product_lem : (v : ℕ) → v < length G.nodes → variable_tec G b v * remaining G b ≤ 10000000000000000
    shared_product_lem v l = mul-le-mul (le_trans (variable_most_lem b v) (tec_most v l)) (le_trans (remaining_fits G b (r.scalable b h)) (to_most (variable_tec G b) (variable_most_lem b) (length G.nodes) (le_refl _)))

    runs_most_lem : (v : ℕ) → generation G b v ≤ node_tec G v
    runs_most_lem = generation_most G b (r.scalable b h)

    net_within : (v : ℕ) → v < length G.nodes → nat_abs (net G b v) ≤ 100000000
    unfolding net
    net_within v l = difference _ (node_demand G v) 100000000 (omega (arith, runs_most_lem v, tec_most v l)) (demand_most v l)

    supply_within : (v : ℕ) → v < length G.nodes → nat_abs (supply G (Base b) v) ≤ 100000000000000
    unfolding supply
    supply_within v l = abs-mul-le (pos 1000000) (net G b v) {m = 1000000} (omega arith) (net_within v l)

  length_within : (runs : Runs) (c : ℕ) → c < length G.circuits → nat_abs (length_of G runs c) ≤ 30000000000000000
  unfolding length_of signed_length
  length_within runs c h =
      signed_within (heading G runs c) (pos (1000000 * expanded_length G.settings (circuit G.circuits c))) 30000000000000000
      (omega (arith, r.expanded c h))

  pub systems : (runs : Runs) → SystemsFit G runs
  systems runs = record {
    sharing = λ b h. remaining_fits G b (r.scalable b h);
    type_most = type_most_lem;
    fixed_product = λ b v t h l. mul-le-mul (percent_most G.settings.edition b (plant_of (suc t))) (type_most_lem v t h l);
    fixed_most = fixed_most_lem;
    fixed_to = λ b. to_most (fixed_kw G b) (fixed_most_lem b);
    variable_most = variable_most_lem;
    variable_to = λ b. to_most (variable_tec G b) (variable_most_lem b);
    shared_product = shared_product_lem;
    scaled_most = λ b h. scaled_fits (length G.nodes) (variable_tec G b) (remaining G b) (remaining_fits G b (r.scalable b h));
    runs_most = runs_most_lem;
    runs_none = λ b h v e. omega (arith, runs_most_lem b h v);
    runs_all = λ b h. generation_total G b (r.scalable b h);
    net_kw = net_within;
    base_supply = supply_within;
    expanded = r.expanded;
    signed = length_within runs;
  }

pub systems_fit : SystemsAlwaysFit
systems_fit S study runs = systems (grid_of S) (ranged S study) runs
