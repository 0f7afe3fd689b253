-- A number and a limit.
use mathlib.Core.Path.{◌≡◌, refl, sym}
use mathlib.Core.Bool.{Bool, true, false}
use Prim.Native.Nat.{ℕ, ◌≤◌}
use native.Mathlib.Decide.{dec_le}
use native.Mathlib.Omega.{arith}
use lib.Dec.{leb}
use lib.IntN.{ℤ, pos, nat_abs, ◌-ℤ◌}
use lib.Signed.{le_z, ◌≤ℤ◌, ◌<ℤ◌}
use borrow.Author.Tests.{lt-leb, le-leb}
use mir.Syntax.{w64}
use mir.Val.{SFits}
use Rattle.integers.proofs.Core.{Z, abs_parts}
use Rattle.integers.proofs.Machine.{le_true}

le_false : {x y : ℤ} → le_z x y ≡ false → y <ℤ x
le_false {x} {y} = simp Z (λ h. h)

-- a number of 64 bits, and what is as far below 0
module _ (k : ℕ) (fits : SFits w64 (pos k)) where
  pub minus_fits : SFits w64 (pos 0 -ℤ pos k)
  minus_fits = simp Z (omega (arith, simp Z at fits))

-- no number of 64 bits is past a limit that is none
pub no_limit : (z : ℤ) (k : ℕ) → SFits w64 z → (SFits w64 (pos k) → ⊥) → true ≡ leb (nat_abs z) k
no_limit z k f past = go (dec_le k 9223372036854775807)
  where
    small : k ≤ 9223372036854775807 → SFits w64 (pos k)
    small = simp Z (omega arith)

    go : Dec (k ≤ 9223372036854775807) → true ≡ leb (nat_abs z) k
    go (yes h) = absurd (past (small h))
    go (no h) = sym (le-leb (nat_abs z) k (simp Z (omega (arith, simp Z at f))))

module _ (z : ℤ) (k : ℕ) where
  pub below_limit : le_z (pos 0 -ℤ pos k) z ≡ false → false ≡ leb (nat_abs z) k
  below_limit e = let h : z <ℤ (pos 0 -ℤ pos k) = le_false e in sym (lt-leb (nat_abs z) k (omega (arith, abs_parts z, simp Z at h)))

  -- not below it, it is within it if not above
  pub above_decides : le_z (pos 0 -ℤ pos k) z ≡ true → le_z z (pos k) ≡ leb (nat_abs z) k
  above_decides e = go (le_z z (pos k)) refl
    where
      go : (b : Bool) → le_z z (pos k) ≡ b → b ≡ leb (nat_abs z) k
      go true f = let l : (pos 0 -ℤ pos k) ≤ℤ z = le_true e in let h : z ≤ℤ pos k = le_true f in sym (le-leb (nat_abs z) k (simp Z (omega (arith, simp Z at h, simp Z at l))))
      go false f = let h : pos k <ℤ z = le_false f in sym (lt-leb (nat_abs z) k (omega (arith, abs_parts z, simp Z at h)))
