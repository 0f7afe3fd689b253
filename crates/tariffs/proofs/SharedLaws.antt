-- 02, request 6: what the code makes of a side's arrays is what a share file says of its zones.
use mathlib.Core.Path.{◌≡◌, refl, sym, ◌∙◌, ap, ap₂}
use mathlib.Core.Bool.{Bool, true, false}
use mathlib.Core.List.{List}
use mathlib.Core.Option.{none}
use Prim.Native.Nat.{ℕ, suc, ◌≤◌, ◌<◌}
use native.Mathlib.Omega.{arith}
use lib.IntN.{ℤ, pos, ◌*ℤ◌}
use Rattle.integers.specs.Numbers.{Σ, nearest}
use Rattle.integers.proofs.Core.{Z}
use Rattle.integers.proofs.Laws.{mul-zero}
use Rattle.integers.proofs.Div.{nearest_zero}
use Rattle.integers.proofs.Sum.{Σ-zero, Σ-same, Σ-none}
use Rattle.meaning.specs.Rows.{found}
use Rattle.meaning.specs.Columns.{kw_at, metres_at, column}
use Rattle.meaning.specs.Sharing.{not_shared_metres, shared_metres, shared_kw}
use Rattle.meaning.specs.Charging.{tariff, shared_by, no_shared}
use Rattle.meaning.proofs.Columns.{column_at, column_past}
use Rattle.zones.specs.declared.ZoneSums.{ZoneSums}
use Rattle.boundaries.specs.declared.Shares.{Shares}
use Rattle.boundaries.specs.declared.Split.{Split}
use Rattle.chains.proofs.Laws.{zone_row}
use Rattle.boundaries.specs.Boundaries.{sharing_in, split_of, splits}
use Rattle.boundaries.proofs.Exact.{split_at}
use Rattle.tariffs.specs.declared.wider.Terms.{Terms}
use Rattle.tariffs.specs.Sides.{metres_from, sums_of, metres_over, parts_in, not_shared_over, shared_zones, shared_tariff_from, shared_from, shared_at, AllFit}
use Rattle.tariffs.proofs.Laws.{near_own, not_shared_at}

-- ---- a file in force, or none
module _ (shares : Shares) (count : ℕ) where
  none_shared : shares.in_force ≡ false → sharing_in shares count ≡ none
  unfolding sharing_in
  none_shared e = rw e refl

  pub shared_found : found (sharing_in shares count) ≡ shares.in_force
  unfolding sharing_in found
  shared_found = go shares.in_force refl
    where
      go : (b : Bool) → shares.in_force ≡ b → found (sharing_in shares count) ≡ b
      go true e = rw e refl
      go false e = rw e refl

  -- the kilowatts of a zone's shared tariff
  kw_is : shares.in_force ≡ true → (k : ℕ) → k < 32 → shared_kw (sharing_in shares count) (suc k) ≡ kw_at shares.kw k
  unfolding sharing_in shared_kw
  kw_is e k h = rw e (zone_row 0 (kw_at shares.kw) k h)

free : (constant factor : ℕ) → tariff (pos 0) constant factor ≡ pos 0
unfolding tariff
free constant factor = ap (λ (z : ℤ). nearest z 100000) (nothing (pos constant) (pos factor)) ∙ nearest_zero 100000
  where
    nothing : (a b : ℤ) → pos 0 *ℤ a *ℤ b ≡ pos 0
    nothing a b = simp Z (omega arith)

module _ (shares : Shares) (count : ℕ) (sums : List ZoneSums) (f : AllFit sums) where
  abbrev metres : ℕ → ℤ
  metres zone = metres_from (sums_of sums zone)

  abbrev parts : List Split
  parts = splits shares count (metres_over sums)

  -- not-shared and shared metres
  pub not_shared_is : (k : ℕ) → k < 32 → metres_at (not_shared_over parts) k ≡ not_shared_metres (sharing_in shares count) metres (suc k)
  unfolding split_of
  not_shared_is k h =
      not_shared_at parts k h ∙ ap (λ (p : Split). p.not_shared.0) (split_at shares count (metres_over sums) _ k h)
      ∙ ap (λ (m : ℕ → ℤ). not_shared_metres (sharing_in shares count) m (suc k)) (near_own sums f)

  shared_is : (k : ℕ) → k < 32 → (parts_in parts k).shared.0 ≡ shared_metres (sharing_in shares count) metres (suc k)
  unfolding split_of
  shared_is k h =
      ap (λ (p : Split). p.shared.0) (split_at shares count (metres_over sums) _ k h) ∙ ap (λ (m : ℕ → ℤ). shared_metres (sharing_in shares count) m (suc k)) (near_own sums f)

  module _ (t : Terms) where
    abbrev tariff_of : ℕ → ℤ
    tariff_of k = tariff (shared_metres (sharing_in shares count) metres (suc k)) t.constant t.factor

    priced_is : (k : ℕ) → k < 32 → shared_tariff_from t (parts_in parts k).shared.0 ≡ tariff_of k
    unfolding shared_tariff_from
    priced_is k h = rw (shared_is k h) refl

    -- what is said of a zone's shared metres
    pub shared_line_is : (k : ℕ) → k < count → count ≤ 32
        → shared_at (column no_shared 32 (shared_zones shares.in_force count) (λ i. shared_from t (parts_in parts i).shared.0)) k
        ≡ shared_by (shared_metres (sharing_in shares count) metres (suc k)) (tariff_of k)
    unfolding shared_zones shared_from shared_metres
    shared_line_is k h few = go shares.in_force refl
      where
        go : (b : Bool) → shares.in_force ≡ b
            → shared_at (column no_shared 32 (shared_zones b count) (λ i. shared_from t (parts_in parts i).shared.0)) k ≡ shared_by (shared_metres (sharing_in shares count) metres (suc k)) (tariff_of k)
        go true e = column_at no_shared 32 _ no_shared count k h (omega arith) ∙ ap₂ shared_by (shared_is k (omega arith)) (priced_is k (omega arith))
        go false e = column_past no_shared 32 _ no_shared 0 k (omega arith) (omega arith) ∙ rw (none_shared shares count e) (ap (shared_by (pos 0)) (sym (free t.constant t.factor)))

    -- and what the shared tariffs bring in
    pub shared_income_is : count ≤ 32
        → Σ (shared_zones shares.in_force count) (λ k. shared_tariff_from t (parts_in parts k).shared.0 *ℤ pos (kw_at shares.kw k))
        ≡ Σ count (λ k. tariff_of k *ℤ pos (shared_kw (sharing_in shares count) (suc k)))
    unfolding shared_zones shared_kw
    shared_income_is few = go shares.in_force refl
      where
        go : (b : Bool) → shares.in_force ≡ b
            → Σ (shared_zones b count) (λ k. shared_tariff_from t (parts_in parts k).shared.0 *ℤ pos (kw_at shares.kw k)) ≡ Σ count (λ k. tariff_of k *ℤ pos (shared_kw (sharing_in shares count) (suc k)))
        go true e = Σ-same count _ _ (λ k h. ap₂ (λ (x : ℤ) (n : ℕ). x *ℤ pos n) (priced_is k (omega arith)) (sym (kw_is shares count e k (omega arith))))
        go false e = Σ-zero _ ∙ sym (Σ-none count _ (λ k h. rw (none_shared shares count e) (mul-zero (tariff (shared_metres none metres (suc k)) t.constant t.factor))))
