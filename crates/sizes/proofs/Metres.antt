-- 01, steps 6 to 8: metres of nodes and zones, and C. An average is within what its terms are within.
use mathlib.Core.Path.{◌≡◌, ◌∙◌, ap₂}
use Prim.Native.Nat.{ℕ, suc, ◌+◌, ◌*◌, ◌-◌, ◌≤◌, ◌<◌}
use native.Mathlib.Nat.{le_refl, le_trans, mul-le-mul_left}
use native.Mathlib.Omega.{arith}
use lib.Dec.{eqb}
use lib.IntN.{ℤ, pos, nat_abs, ◌-ℤ◌, ◌*ℤ◌}
use lib.ListN.{length}
use Rattle.integers.specs.Numbers.{sum, Σ, nearest}
use Rattle.integers.proofs.Laws.{abs-sub, abs_neg, abs-mul-le}
use Rattle.meaning.specs.Study.{Runs}
use Rattle.meaning.specs.declared.Edition.{Edition}
use Rattle.meaning.specs.declared.Background.{Background}
use Rattle.meaning.specs.declared.System.TheVariants.{Wider, Local}
use Rattle.meaning.specs.Editions.{Of}
use Rattle.meaning.specs.Systems.{limit_of}
use Rattle.meaning.specs.Grid.{Grid}
use Rattle.meaning.specs.Proposal.{potential}
use Rattle.meaning.specs.declared.Side.{Side}
use Rattle.meaning.specs.declared.Side.TheVariants.{Generation, Demand}
use Rattle.meaning.specs.Charging.{metres}
use Rattle.meaning.specs.Charging as charging
use Rattle.meaning.specs.Figures.{wider_metres, local_metres, distance, zones, zone_of, weight, zone_weight, zone_paying_in, total_paying_in, over_zones, zonal_metres, C, basis}
use Rattle.meaning.specs.Conditions.{InRange}
use Rattle.sizes.specs.Bounds.{PotentialsInRange, MetresFit, zone_share, above_of_c, below_of_c}
use Rattle.integers.proofs.Sum.{sum_part, Σ-weighted}
use Rattle.integers.proofs.Group.{Σ-weighted-of}
use Rattle.integers.proofs.Div.{nearest_within, nearest_zero}
use Rattle.sizes.proofs.Unweighted.{Σ-none}
use Rattle.sizes.proofs.Ranges.{Ranged}
use Rattle.sizes.proofs.Kilowatts.{zones_cover, kilowatts}

metres_within : (z : ℤ) → nat_abs z ≤ 10000000000000000 → nat_abs (metres z) ≤ 10000000
unfolding metres
metres_within z h = nearest_within z 10000000 1000000000 h

-- over zones: within b times the kilowatts, as far as a loop has come and in all
module _ (G : Grid) (r : Ranged G) (back : Background) (f : ℕ → ℤ) (b : ℕ) (fits : (zone : ℕ) → nat_abs (f zone) ≤ b) where
  pub zones_within : (side : Side) (k : ℕ)
      → nat_abs (Σ k (λ i. f (suc i) *ℤ pos (zone_paying_in G back side (suc i)))) ≤ b * sum k (λ i. zone_paying_in G back side (suc i))
  zones_within side k = Σ-weighted b k (λ i. f (suc i)) (λ i. zone_paying_in G back side (suc i)) (λ i l. fits (suc i))

  pub over_zones_within : (side : Side) → nat_abs (over_zones G back side f) ≤ b * total_paying_in G back side
  over_zones_within side = rw (zones_cover G r back side) at (zones_within side (zones G side))

-- step 8 over plain numbers: p and q = 1000 - p thousandths
mixed : (q p k l : ℕ) (x y : ℤ) → nat_abs x ≤ 10000000 * k → nat_abs y ≤ 10000000 * l → nat_abs (pos q *ℤ x -ℤ pos p *ℤ y) ≤ 10000000 * (p * l + q * k)
mixed q p k l x y h j = omega (arith, abs-sub (pos q *ℤ x) (pos p *ℤ y), abs-mul-le (pos q) x (le_refl q) h, abs-mul-le (pos p) y (le_refl p) j)

pub shared : (p k l : ℕ) → p ≤ 1000 → InRange k 1 100000000 → InRange l 1 100000000 → InRange (p * k + (1000 - p) * l) 1 100000000000
shared p k l h a b = record {
  least = omega (arith, mul-le-mul_left p a.least, mul-le-mul_left (1000 - p) b.least);
  most = omega (arith, mul-le-mul_left p a.most, mul-le-mul_left (1000 - p) b.most);
}

-- a zone without kilowatts, whatever the potentials are
pub zonal_none_lem : (G : Grid) (runs : Runs) (b : Background) (side : Side) (zone : ℕ) → zone_weight G side zone ≡ 0 → zonal_metres G runs b side zone ≡ pos 0
unfolding zonal_metres zone_weight
zonal_none_lem G runs b side zone h =
    ap₂ nearest (Σ-none (length G.nodes) (λ v. eqb (zone_of G side v) zone) (distance runs b side) (weight G side) h) h ∙ nearest_zero 0

pub local_node : (e : Edition) (nodes : ℕ) (runs : Runs) → PotentialsInRange e nodes runs → (v : ℕ) → v < nodes → nat_abs (local_metres runs v) ≤ 10000000
unfolding local_metres limit_of
local_node e nodes runs u v h = metres_within (potential (runs Local) v) (u Local tt v h)

module _ (G : Grid) (runs : Runs) (r : Ranged G) (u : PotentialsInRange G.settings.edition (length G.nodes) runs) (b : Background) (has : Of b G.settings.edition) where
  wider_node_lem : (v : ℕ) → v < length G.nodes → nat_abs (wider_metres runs b v) ≤ 10000000
  unfolding wider_metres limit_of
  wider_node_lem v h = metres_within (potential (runs (Wider b)) v) (u (Wider b) has v h)

  node_distance : (side : Side) (v : ℕ) → v < length G.nodes → nat_abs (distance runs b side v) ≤ 10000000
  unfolding distance
  node_distance Generation v h = wider_node_lem v h
  node_distance Demand v h = rw (abs_neg (wider_metres runs b v)) (wider_node_lem v h)

  zone_to_lem : (side : Side) (zone k : ℕ) → k ≤ length G.nodes → nat_abs (Σ k (zone_share G runs b side zone)) ≤ 10000000 * zone_weight G side zone
  unfolding zone_weight
  zone_to_lem side zone k h = le_trans
      (Σ-weighted-of 10000000 k (λ v. eqb (zone_of G side v) zone) (distance runs b side) (weight G side) (λ v l. node_distance side v (omega arith)))
      (mul-le-mul_left 10000000 (sum_part k (length G.nodes) _ h))

  zonal : (side : Side) (zone : ℕ) → nat_abs (zonal_metres G runs b side zone) ≤ 10000000
  unfolding zonal_metres
  zonal side zone = nearest_within _ 10000000 (zone_weight G side zone) (zone_to_lem side zone (length G.nodes) (le_refl _))

  above_within : nat_abs (above_of_c G runs b) ≤ 10000000 * below_of_c G b
  above_within =
      mixed (1000 - G.settings.p) G.settings.p (total_paying_in G b Demand) (total_paying_in G b Generation)
      (over_zones G b Demand (zonal_metres G runs b Demand))
      (over_zones G b Generation (zonal_metres G runs b Generation))
      (over_zones_within G r b (zonal_metres G runs b Demand) 10000000 (zonal Demand) Demand)
      (over_zones_within G r b (zonal_metres G runs b Generation) 10000000 (zonal Generation) Generation)

  below_range : InRange (below_of_c G b) 1 100000000000
  below_range =
      shared G.settings.p (total_paying_in G b Generation) (total_paying_in G b Demand) r.p (r.payers_in b has Generation) (r.payers_in b has Demand)

  centre : nat_abs (C G runs b) ≤ 10000000
  unfolding charging.C basis
  centre = nearest_within (above_of_c G runs b) 10000000 (below_of_c G b) above_within

  pub metres_fit : MetresFit G runs b
  metres_fit = record {
    wider_node = wider_node_lem;
    zone_to = zone_to_lem;
    zonal = zonal;
    zonal_none = zonal_none_lem G runs b;
    zones_to = λ side k h. omega (
      arith,
      zones_within G r b (zonal_metres G runs b side) 10000000 (zonal side) side k,
      (kilowatts G r).zones_to b side k h,
      (r.payers_in b has side).most,
    );
    above = omega (arith, above_within, below_range.most);
    below = below_range;
    centre = centre;
  }
