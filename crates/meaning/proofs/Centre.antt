-- 01, step 8: what C is for. With it, demand's zones by 1000 - p and generation's by p come to the same, over the kilowatts that pay.
use mathlib.Core.Path.{◌≡◌, ◌∙◌, ap}
use Prim.Native.Nat.{ℕ, suc, ◌+◌, ◌*◌, ◌-◌, ◌≤◌}
use native.Mathlib.Omega.{arith}
use lib.IntN.{ℤ, pos, neg_ℤ, nat_abs, ◌+ℤ◌, ◌-ℤ◌, ◌*ℤ◌}
use Rattle.integers.specs.Numbers.{sum}
use Rattle.integers.proofs.Core.{Z}
use Rattle.integers.proofs.Sum.{Σ-same, Σ-raised}
use Rattle.integers.proofs.Div.{nearest_error}
use Rattle.meaning.specs.Study.{Runs}
use Rattle.meaning.specs.Grid.{Grid}
use Rattle.meaning.specs.declared.Background.{Background}
use Rattle.meaning.specs.declared.Side.{Side}
use Rattle.meaning.specs.declared.Side.TheVariants.{Generation, Demand}
use Rattle.meaning.specs.Figures.{zones, zone_paying_in, total_paying_in, over_zones, zonal_metres, C, basis}
use Rattle.meaning.specs.Charging as charging
use Rattle.meaning.specs.Demands.{Balances}

-- over plain numbers: the zones' sums a and b, moved by c
settled : (p q k l : ℕ) (a b c : ℤ) → nat_abs (pos 2 *ℤ (pos q *ℤ a -ℤ pos p *ℤ b -ℤ c *ℤ pos (p * k + q * l))) ≤ p * k + q * l
    → nat_abs (pos 2 *ℤ (pos q *ℤ (a -ℤ c *ℤ pos l) -ℤ pos p *ℤ (b +ℤ c *ℤ pos k))) ≤ p * k + q * l
settled p q k l a b c h = rw (same p q k l a b c) h
  where
    same : (p q k l : ℕ) (a b c : ℤ)
        → pos 2 *ℤ (pos q *ℤ (a -ℤ c *ℤ pos l) -ℤ pos p *ℤ (b +ℤ c *ℤ pos k)) ≡ pos 2 *ℤ (pos q *ℤ a -ℤ pos p *ℤ b -ℤ c *ℤ pos (p * k + q * l))
    same p q k l a b c = simp Z (omega arith)

module _ (G : Grid) (runs : Runs) (b : Background) (all : (side : Side) → sum (zones G side) (λ k. zone_paying_in G b side (suc k)) ≡ total_paying_in G b side) where
  moved : (side : Side) (c : ℤ)
      → over_zones G b side (λ zone. zonal_metres G runs b side zone +ℤ c) ≡ over_zones G b side (zonal_metres G runs b side) +ℤ c *ℤ pos (total_paying_in G b side)
  moved side c =
      Σ-raised (λ k. zonal_metres G runs b side (suc k)) c (λ k. zone_paying_in G b side (suc k)) (zones G side)
      ∙ ap (λ (m : ℕ). over_zones G b side (zonal_metres G runs b side) +ℤ c *ℤ pos m) (all side)

  demand_moved : (c : ℤ)
      → over_zones G b Demand (λ zone. zonal_metres G runs b Demand zone -ℤ c) ≡ over_zones G b Demand (zonal_metres G runs b Demand) -ℤ c *ℤ pos (total_paying_in G b Demand)
  demand_moved c =
      Σ-same (zones G Demand) _ _ (λ k h. lowered (zonal_metres G runs b Demand (suc k)) c (zone_paying_in G b Demand (suc k)))
      ∙ moved Demand (neg_ℤ c)
      ∙ raised (over_zones G b Demand (zonal_metres G runs b Demand)) c (total_paying_in G b Demand)
    where
      lowered : (m c : ℤ) (w : ℕ) → (m -ℤ c) *ℤ pos w ≡ (m +ℤ neg_ℤ c) *ℤ pos w
      lowered m c w = simp Z (omega arith)

      raised : (a c : ℤ) (w : ℕ) → a +ℤ neg_ℤ c *ℤ pos w ≡ a -ℤ c *ℤ pos w
      raised a c w = simp Z (omega arith)

  pub balances : 1 ≤ G.settings.p * total_paying_in G b Generation + (1000 - G.settings.p) * total_paying_in G b Demand → Balances G runs b
  unfolding charging.C basis
  balances h =
      let p = G.settings.p in
      let d = over_zones G b Demand (zonal_metres G runs b Demand) in
      let g = over_zones G b Generation (zonal_metres G runs b Generation) in
      let k = total_paying_in G b Generation in
      let l = total_paying_in G b Demand in
      rw (demand_moved (C G runs b), moved Generation (C G runs b))
      (settled p (1000 - p) k l d g (C G runs b) (nearest_error (pos (1000 - p) *ℤ d -ℤ pos p *ℤ g) (p * k + (1000 - p) * l) h))
