-- The figures bring in the targets: of each side, what the zones pay, the local income and the remainder are the target.
use mathlib.Core.Path.{◌≡◌, refl, sym, ◌∙◌, ap, ap₂}
use mathlib.Core.List.{List}
use Prim.Native.Nat.{ℕ, zero, suc, ◌+◌, ◌*◌, ◌-◌, ◌≤◌}
use native.Mathlib.Omega.{arith}
use native.Mathlib.Nat.{mul-add, add-mul}
use lib.IntN.{ℤ, pos, ◌+ℤ◌, ◌-ℤ◌, ◌*ℤ◌}
use Rattle.integers.specs.Numbers.{sum, Σ}
use Rattle.integers.proofs.Core.{Z}
use Rattle.integers.proofs.Sum.{Σ-add}
use Rattle.meaning.specs.Study.{Runs}
use Rattle.meaning.specs.declared.Edition.{Edition}
use Rattle.meaning.specs.declared.Edition.TheVariants.{First, Second}
use Rattle.meaning.specs.declared.Background.{Background}
use Rattle.meaning.specs.declared.Background.TheVariants.{YearRound, Peak}
use Rattle.meaning.specs.Editions.{over_backgrounds}
use Rattle.meaning.specs.Grid.{Grid}
use Rattle.meaning.specs.declared.Side.{Side}
use Rattle.meaning.specs.declared.Side.TheVariants.{Generation, Demand}
use Rattle.meaning.specs.Charging.{remainder_of, wider_income}
use Rattle.meaning.specs.Figures.{zones, zone_paying, zone_paying_in, total_paying, target, zone_tariff, local_income, priced, residual, remainder, basis}
use Rattle.meaning.specs.Charging as charging
use Rattle.sizes.specs.Bounds.{KilowattsFit}
use Rattle.claims.proofs.ReadBack.{zone_worth}

-- a price r of every kilowatt
flat : (r : ℤ) (kw : ℕ → ℕ) (n : ℕ) → Σ n (λ k. r *ℤ pos (kw k)) ≡ r *ℤ pos (sum n kw)
unfolding Σ sum
flat r kw zero = simp Z (omega arith)
flat r kw (suc n) = rw (flat r kw n) (step r (sum n kw) (kw n))
  where
    step : (r : ℤ) (m k : ℕ) → r *ℤ pos m +ℤ r *ℤ pos k ≡ r *ℤ pos (m + k)
    step r m k = simp Z (omega arith)

-- of each background, added up over the zones
over_each : (e : Edition) (n : ℕ) (t : Background → ℕ → ℤ) → Σ n (λ k. over_backgrounds e (λ b. t b k)) ≡ over_backgrounds e (λ b. Σ n (t b))
unfolding over_backgrounds
over_each First n t = refl
over_each Second n t = Σ-add n (t YearRound) (t Peak)

module _ (G : Grid) (fit : KilowattsFit G) (runs : Runs) (share : List ℕ) where
  -- what the zones of a side bring in
  abbrev printed : Side → ℤ
  printed side = Σ (zones G side) (λ k. zone_worth G runs share side (suc k))

  -- the residual is paid by each kilowatt, and the zones have all of them
  income_is : (side : Side) → printed side ≡ wider_income (priced G runs share side) +ℤ residual G runs share side *ℤ pos (total_paying G side)
  unfolding charging.priced basis
  income_is side =
      Σ-add (zones G side) _ _
      ∙ ap₂ ◌+ℤ◌
      (Σ-add (zones G side) _ _ ∙ ap (λ (z : ℤ). z +ℤ charging.shared_income (priced G runs share side)) (over_each G.settings.edition (zones G side) (λ b k. zone_tariff G runs share b side (suc k) *ℤ pos (zone_paying_in G b side (suc k)))))
      (flat (residual G runs share side) (λ k. zone_paying G side (suc k)) (zones G side) ∙ ap (λ (m : ℕ). residual G runs share side *ℤ pos m) (fit.zones_all side))

  pub side_recovered : (side : Side) → printed side +ℤ local_income G runs side +ℤ remainder G runs share side ≡ target G side
  unfolding charging.remainder remainder_of charging.residual charging.rest charging.priced basis
  side_recovered side =
      rw (income_is side)
      (cancel (wider_income (priced G runs share side)) (residual G runs share side) (local_income G runs side) (target G side) (total_paying G side))
    where
      cancel : (o r l t : ℤ) (k : ℕ) → o +ℤ r *ℤ pos k +ℤ l +ℤ (t -ℤ o -ℤ l -ℤ r *ℤ pos k) ≡ t
      cancel o r l t k = simp Z (omega arith)

  -- the two targets are the revenue in micro-pounds
  pub targets : G.settings.p ≤ 1000 → target G Generation +ℤ target G Demand ≡ pos (G.settings.revenue * 1000000)
  targets h = ap pos (shares G.settings.revenue G.settings.p h)
    where
      shares : (r p : ℕ) → p ≤ 1000 → r * (1000 - p) * 1000 + r * p * 1000 ≡ r * 1000000
      shares r p h =
          sym (add-mul (r * (1000 - p)) (r * p) 1000) ∙ ap (λ (m : ℕ). m * 1000) (sym (mul-add r (1000 - p) p)) ∙ rw (whole p h) (omega arith)
        where
          whole : (p : ℕ) → p ≤ 1000 → (1000 - p) + p ≡ 1000
          whole p h = omega arith
