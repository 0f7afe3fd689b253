-- Division of a whole number by a natural above 0: rounded down (its laws are in Floor.antt), and to the nearest.
-- All that is said here of the nearest follows from `nearest_error`, and holds whatever happens to a half; only `nearest_mirror` and `nearest_moved` know where it goes.
use mathlib.Core.Path.{◌≡◌}
use mathlib.Core.Logic.{◌⊎◌, inl, inr}
use Prim.Native.Nat.{ℕ, zero, suc, ◌*◌, ◌≤◌, ◌<◌}
use native.Mathlib.Omega.{arith}
use lib.IntN.{ℤ, pos, neg_ℤ, nat_abs, ◌+ℤ◌, ◌-ℤ◌, ◌*ℤ◌}
use lib.Signed.{◌≤ℤ◌, ◌<ℤ◌}
use Rattle.integers.specs.Numbers.{rounded, nearest, Near}
use Rattle.integers.proofs.Core.{Z}
use Rattle.integers.proofs.Laws.{lt_of_mul_lt, le-or-lt, le_antisymm, le_refl}
use Rattle.integers.proofs.Half.{nearest_none}
pub use Rattle.integers.proofs.Half.{nearest_error, nearest_mirror, nearest_moved}
pub use Rattle.integers.proofs.Floor.{IsFloor, floor_is, floor_unique, floor_mono, floor_add, floor_exact, floor_floor, floor_le, floor_ge, floor_within, floor_abs}

-- nearest numbers k and l, however each was chosen, of numbers less than d apart are at most 1 apart
pub near_apart : (y z : ℤ) (d : ℕ) (k l : ℤ) → Near y d k → Near z d l → nat_abs (y -ℤ z) < d → nat_abs (k -ℤ l) ≤ 1
near_apart y z d k l f g h =
    let above = lt_of_mul_lt d k (l +ℤ pos 2) (simp Z (omega (arith, simp Z at f, simp Z at g, simp Z at h))) in
    let below = lt_of_mul_lt d l (k +ℤ pos 2) (simp Z (omega (arith, simp Z at f, simp Z at g, simp Z at h))) in
    simp Z (omega (arith, simp Z at above, simp Z at below))

pub nearest_mono : (x y : ℤ) (d : ℕ) → 0 < d → x ≤ℤ y → nearest x d ≤ℤ nearest y d
nearest_mono x y d p h = go (le-or-lt y x)
  where
    go : (y ≤ℤ x) ⊎ (x <ℤ y) → nearest x d ≤ℤ nearest y d
    go (inl k) = rw (le_antisymm h k) (le_refl (nearest y d))
    go (inr k) =
        let f = nearest_error x d p in
        let g = nearest_error y d p in
        let below = lt_of_mul_lt d (nearest x d) (nearest y d +ℤ pos 1) (simp Z (omega (arith, simp Z at f, simp Z at g, simp Z at k))) in
        simp Z (omega (arith, simp Z at below))

pub nearest_exact : (k : ℤ) (d : ℕ) → 0 < d → nearest (k *ℤ pos d) d ≡ k
nearest_exact k d p =
    let e = nearest_error (k *ℤ pos d) d p in
    let above = lt_of_mul_lt d (nearest (k *ℤ pos d) d) (k +ℤ pos 1) (simp Z (omega (arith, simp Z at e))) in
    let below = lt_of_mul_lt d k (nearest (k *ℤ pos d) d +ℤ pos 1) (simp Z (omega (arith, simp Z at e))) in
    simp Z (omega (arith, simp Z at above, simp Z at below))

-- ---- ranges: held to a multiple of d
pub nearest_le : (z k : ℤ) (d : ℕ) → 0 < d → z ≤ℤ (k *ℤ pos d) → nearest z d ≤ℤ k
nearest_le z k d p h = rw (nearest_exact k d p) at (nearest_mono z (k *ℤ pos d) d p h)

pub nearest_ge : (z k : ℤ) (d : ℕ) → 0 < d → (k *ℤ pos d) ≤ℤ z → k ≤ℤ nearest z d
nearest_ge z k d p h = rw (nearest_exact k d p) at (nearest_mono (k *ℤ pos d) z d p h)

-- at every d
pub nearest_within : (z : ℤ) (b d : ℕ) → nat_abs z ≤ b * d → nat_abs (nearest z d) ≤ b
nearest_within z b zero h = rw (nearest_none z) (omega arith)
nearest_within z b (suc d) h =
    let most = nearest_le z (pos b) (suc d) (omega arith) (simp Z (omega (arith, simp Z at h))) in
    let least = nearest_ge z (neg_ℤ (pos b)) (suc d) (omega arith) (simp Z (omega (arith, simp Z at h))) in
    simp Z (omega (arith, simp Z at most, simp Z at least))

pub nearest_zero : (d : ℕ) → nearest (pos 0) d ≡ pos 0
nearest_zero d = let h = nearest_within (pos 0) 0 d (omega arith) in simp Z (omega (arith, simp Z at h))

pub nearest_abs : (z : ℤ) (d : ℕ) → nat_abs (nearest z d) ≤ nat_abs z
nearest_abs z zero = rw (nearest_none z) (omega arith)
nearest_abs z (suc d) = nearest_within z (nat_abs z) (suc d) (omega arith)

-- of naturals
pub rounded_most : (a d : ℕ) → rounded a d ≤ a
unfolding nearest
rounded_most a d = nearest_abs (pos a) d
