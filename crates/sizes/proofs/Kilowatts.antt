-- No part of a side's kilowatts is above their total, and the zones have all of them.
use mathlib.Core.Path.{◌≡◌}
use mathlib.Core.Bool.{Bool, true, false, cond}
use Prim.Native.Nat.{ℕ, suc, ◌≤◌}
use native.Mathlib.Nat.{le_trans}
use native.Mathlib.Omega.{arith}
use lib.Dec.{eqb}
use lib.ListN.{length}
use Rattle.integers.specs.Numbers.{sum}
use Rattle.meaning.specs.declared.Background.{Background}
use Rattle.meaning.specs.declared.Plant.{Plant}
use Rattle.meaning.specs.Grid.{Grid, grid_of, tec_of}
use Rattle.meaning.specs.declared.Side.{Side}
use Rattle.meaning.specs.declared.Side.TheVariants.{Generation}
use Rattle.meaning.specs.Sharing.{passes, behind}
use Rattle.meaning.specs.Figures.{zones, zone_of, weight, paying, paying_in, zone_weight, zone_paying, zone_paying_in, total_paying, total_paying_in, zone_tec_of}
use Rattle.meaning.proofs.Plants.{types_le}
use Rattle.sizes.specs.Bounds.{KilowattsFit, KilowattsAlwaysFit}
use Rattle.integers.proofs.Sum.{sum-le, sum_part, sum_item}
use Rattle.integers.proofs.Group.{sum_groups, sum_of_le}
use Rattle.sizes.proofs.Ranges.{Ranged, ranged, node_in, in_all_lem}

pub zone_in : (G : Grid) (b : Background) (side : Side) (zone : ℕ) → zone_paying_in G b side zone ≤ zone_paying G side zone
unfolding zone_paying zone_paying_in
zone_in G b side zone = sum-le (length G.nodes) _ _ (λ v h. go (eqb (zone_of G side v) zone) (node_in G b side v))
  where
    go : (t : Bool) {m n : ℕ} → m ≤ n → cond t m 0 ≤ cond t n 0
    go true h = h
    go false h = omega arith

module _ (G : Grid) (r : Ranged G) where
  -- the zones have all kilowatts of a kind
  cover : (side : Side) (kw : ℕ → ℕ) → sum (zones G side) (λ i. sum (length G.nodes) (λ v. cond (eqb (zone_of G side v) (suc i)) (kw v) 0)) ≡ sum (length G.nodes) kw
  cover side kw = sum_groups (zones G side) (length G.nodes) (zone_of G side) kw (λ v h. ((r.in_zone side v h).least, (r.in_zone side v h).most))

  zones_all_lem : (side : Side) → sum (zones G side) (λ i. zone_paying G side (suc i)) ≡ total_paying G side
  unfolding zone_paying total_paying
  zones_all_lem side = cover side (paying G side)

  pub zones_cover : (b : Background) (side : Side) → sum (zones G side) (λ i. zone_paying_in G b side (suc i)) ≡ total_paying_in G b side
  unfolding zone_paying_in total_paying_in
  zones_cover b side = cover side (paying_in G b side)

  zones_to_lem : (b : Background) (side : Side) (k : ℕ) → k ≤ zones G side → sum k (λ i. zone_paying_in G b side (suc i)) ≤ total_paying_in G b side
  zones_to_lem b side k h = rw (zones_cover b side) at (sum_part k (zones G side) (λ i. zone_paying_in G b side (suc i)) h)

  zone_weighs_lem : (side : Side) (zone : ℕ) → zone_weight G side zone ≤ 100000000
  unfolding zone_weight
  zone_weighs_lem side zone = le_trans (sum_of_le (length G.nodes) (λ v. eqb (zone_of G side v) zone) (weight G side)) (r.weighing side)

  pays_most : (side : Side) → sum (length G.nodes) (paying G side) ≤ 100000000
  unfolding total_paying
  pays_most side = (r.payers side).most

  zone_part_lem : (side : Side) (zone : ℕ) → zone_paying G side zone ≤ total_paying G side
  unfolding zone_paying total_paying
  zone_part_lem side zone = sum_of_le (length G.nodes) (λ v. eqb (zone_of G side v) zone) (paying G side)

  -- 02, request 6: TEC of the plant types that pass a test
  module _ (test : Plant → Bool) where
    some_types : (v : ℕ) → tec_of test G v ≤ weight G Generation v
    unfolding weight
    some_types v = types_le _ _ (λ plant kw. go (test plant) kw) G v
      where
        go : (t : Bool) (kw : ℕ) → cond t kw 0 ≤ kw
        go true kw = omega arith
        go false kw = omega arith

    types_most : sum (length G.nodes) (tec_of test G) ≤ 100000000
    types_most = le_trans (sum-le (length G.nodes) _ _ (λ v h. some_types v)) (r.weighing Generation)

    zone_types_lem : (zone : ℕ) → zone_tec_of G test zone ≤ 100000000
    unfolding zone_tec_of
    zone_types_lem zone = le_trans (sum_of_le (length G.nodes) (λ v. eqb (zone_of G Generation v) zone) (tec_of test G)) types_most

    behind_most_lem : (next : ℕ → ℕ) (z : ℕ) → behind (zones G Generation) next (zone_tec_of G test) z ≤ 100000000
    unfolding behind zone_tec_of
    behind_most_lem next z =
        le_trans (sum_of_le (zones G Generation) (λ i. passes next (zones G Generation) (suc i) z) (λ i. zone_tec_of G test (suc i)))
        (rw (cover Generation (tec_of test G)) types_most)

  pub kilowatts : KilowattsFit G
  kilowatts = record {
    all = r.payers;
    all_in = r.payers_in;
    in_all = in_all_lem G;
    node_weighs = λ side v h. le_trans (sum_item (length G.nodes) v (weight G side) h) (r.weighing side);
    node_pays = λ side v h. le_trans (sum_item (length G.nodes) v (paying G side) h) (pays_most side);
    node_pays_in = λ b side v h. le_trans (node_in G b side v) (le_trans (sum_item (length G.nodes) v (paying G side) h) (pays_most side));
    zone_weighs = zone_weighs_lem;
    zone_pays = λ side zone. le_trans (zone_part_lem side zone) (r.payers side).most;
    zone_part = zone_part_lem;
    zone_pays_in = zone_in G;
    zones_to = zones_to_lem;
    zones_all = zones_all_lem;
    zones_all_in = zones_cover;
    node_types = λ test v h. le_trans (sum_item (length G.nodes) v (tec_of test G) h) (types_most test);
    zone_types = zone_types_lem;
    behind_most = behind_most_lem;
  }

pub kilowatts_fit_lem : KilowattsAlwaysFit
kilowatts_fit_lem S study = kilowatts (grid_of S) (ranged S study)
