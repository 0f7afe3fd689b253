-- Where a half goes. Of these laws other crates have three, through Div.antt: `nearest_error`, which holds wherever it goes, and `nearest_mirror` and `nearest_moved`, which say why and what 02's request 2 changed.
use mathlib.Core.Path.{◌≡◌, refl, sym, ◌∙◌, ap}
use mathlib.Core.Logic.{◌⊎◌, inl, inr}
use Prim.Native.Nat.{ℕ, zero, suc, ◌+◌, ◌*◌, ◌-◌, ◌/◌, ◌%◌, ◌≤◌, ◌<◌}
use native.Mathlib.Nat.{div-add-mod', mod-lt, div-zero, div-eq_of_lt-le}
use native.Mathlib.Decide.{dec_lt}
use native.Mathlib.Omega.{arith}
use lib.IntN.{ℤ, pos, negsuc, neg_ℤ, nat_abs, ◌+ℤ◌, ◌*ℤ◌}
use lib.Signed.{◌≤ℤ◌, ◌<ℤ◌}
use Rattle.integers.specs.Numbers.{floor_div, rounded, nearest, Near}
use Rattle.integers.proofs.Core.{Z}
use Rattle.integers.proofs.Laws.{neg-neg}
use Rattle.integers.proofs.Floor.{floor_unique}

-- ---- of naturals: q is a / d to the nearest, a half going up
pub record IsRounded (a d q : ℕ) : Type 0 where
  pub low : 2 * (q * d) ≤ 2 * a + d
  pub high : 2 * a < 2 * (q * d) + d

pub rounded_is : (a d : ℕ) → 0 < d → IsRounded a d (rounded a d)
unfolding rounded
rounded_is a d p =
    let whole = div-add-mod' (2 * a + d) (2 * d) in
    let left = mod-lt (2 * a + d) {m = 2 * d} (omega arith) in
    record { low = omega arith; high = omega arith }

pub rounded_unique : (a d q : ℕ) → IsRounded a d q → rounded a d ≡ q
unfolding rounded
rounded_unique a d q h = div-eq_of_lt-le (2 * d) (omega (arith, h.low)) (omega (arith, h.high))

-- at d = 0 nothing is left to round
pub rounded_none : (a : ℕ) → rounded a 0 ≡ 0
unfolding rounded
rounded_none a = div-zero (2 * a + 0)

rounded_zero : (d : ℕ) → rounded 0 d ≡ 0
rounded_zero zero = rounded_none 0
rounded_zero (suc d) = rounded_unique 0 (suc d) 0 (record { low = omega arith; high = omega arith })

-- by what a quotient leaves over, held to what it lacks of d
module _ (a d : ℕ) (some : 0 < d) where
  pub rounded_down : a % d < d - a % d → rounded a d ≡ a / d
  rounded_down h =
      let whole = div-add-mod' a d in
      rounded_unique a d (a / d) (record { low = omega arith; high = omega arith })

  pub rounded_up : d - a % d ≤ a % d → rounded a d ≡ a / d + 1
  rounded_up h =
      let whole = div-add-mod' a d in
      let left = mod-lt a {m = d} some in
      rounded_unique a d (a / d + 1) (record { low = omega arith; high = omega arith })

-- ---- of whole numbers
-- 02, request 2: a number and its negative have nearest numbers that are each other's negative
pub nearest_mirror : (z : ℤ) (d : ℕ) → nearest (neg_ℤ z) d ≡ neg_ℤ (nearest z d)
unfolding nearest
nearest_mirror (pos zero) d = ap pos (rounded_zero d) ∙ sym (ap (λ (q : ℕ). neg_ℤ (pos q)) (rounded_zero d))
nearest_mirror (pos (suc a)) d = refl
nearest_mirror (negsuc a) d = sym (neg-neg (pos (rounded (suc a) d)))

pub nearest_error : (z : ℤ) (d : ℕ) → 0 < d → Near z d (nearest z d)
unfolding nearest
nearest_error (pos a) d p = let r = rounded_is a d p in simp Z (omega (arith, r.low, r.high))
nearest_error (negsuc a) d p = let r = rounded_is (suc a) d p in simp Z (omega (arith, r.low, r.high))

-- what request 2 moved: only a half below zero, which went up before
pub nearest_moved : (z : ℤ) (d : ℕ) → 0 < d
    → (nearest z d ≡ floor_div (pos 2 *ℤ z +ℤ pos d) (2 * d)) ⊎ ((z <ℤ pos 0) × (pos 2 *ℤ z ≡ (pos 2 *ℤ nearest z d +ℤ pos 1) *ℤ pos d))
unfolding nearest
nearest_moved (pos a) d p =
    let r = rounded_is a d p in
    inl (sym (floor_unique _ (2 * d) _ (omega arith) (record { low = simp Z (omega (arith, r.low)); high = simp Z (omega (arith, r.high)) })))
nearest_moved (negsuc a) d p = go (dec_lt (2 * (q * d)) (2 * suc a + d))
  where
    q : ℕ
    q = rounded (suc a) d

    r : IsRounded (suc a) d q
    r = rounded_is (suc a) d p

    go : Dec (2 * (q * d) < 2 * suc a + d)
        → (neg_ℤ (pos q) ≡ floor_div (pos 2 *ℤ negsuc a +ℤ pos d) (2 * d)) ⊎ ((negsuc a <ℤ pos 0) × (pos 2 *ℤ negsuc a ≡ (pos 2 *ℤ neg_ℤ (pos q) +ℤ pos 1) *ℤ pos d))
    go (yes h) = inl (sym (floor_unique _ (2 * d) _ (omega arith) (record { low = simp Z (omega (arith, r.high)); high = simp Z (omega arith) })))
    go (no h) = inr (simp Z (omega arith), simp Z (omega (arith, r.low)))

pub nearest_none : (z : ℤ) → nearest z 0 ≡ pos 0
unfolding nearest
nearest_none (pos a) = ap pos (rounded_none a)
nearest_none (negsuc a) = ap (λ (q : ℕ). neg_ℤ (pos q)) (rounded_none (suc a))

-- by z's sign
pub nearest_nonneg : (z : ℤ) (d : ℕ) → pos 0 ≤ℤ z → nearest z d ≡ pos (rounded (nat_abs z) d)
unfolding nearest
nearest_nonneg (pos a) d h = refl
nearest_nonneg (negsuc a) d h = absurd h.le

pub nearest_neg : (z : ℤ) (d : ℕ) → z <ℤ pos 0 → nearest z d ≡ neg_ℤ (pos (rounded (nat_abs z) d))
unfolding nearest
nearest_neg (pos a) d h = let k = simp Z at h in absurd (omega arith)
nearest_neg (negsuc a) d h = refl
