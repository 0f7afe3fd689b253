-- Division rounded down, as the function computes it: by a d that a signed number holds, and by one that is 0 or above every magnitude.
use mathlib.Core.Path.{◌≡◌, refl}
use mathlib.Core.Bool.{Bool, true, false}
use mathlib.Core.Logic.{◌⊎◌, inl, inr}
use Prim.Native.Nat.{ℕ, ◌/◌, ◌^◌, ◌<◌}
use native.Mathlib.Nat.{div-zero, div-eq_of_lt}
use native.Mathlib.Omega.{arith}
use borrow.Author.Tests.{le-ltb}
use lib.IntN.{ℤ, pos, negsuc, ◌-ℤ◌}
use lib.Signed.{lt_z}
use mir.Syntax.{w64}
use mir.Val.{SFits, bool_byte, to_z, of_z}
use Rattle.std.specs.Int.{int_div_euclid}
use Rattle.integers.specs.Numbers.{floor_div}

pub floor_euclid : (z : ℤ) (d : ℕ) → int_div_euclid z (pos d) ≡ floor_div z d
unfolding floor_div
floor_euclid (pos a) d = refl
floor_euclid (negsuc a) d = refl

none_left : (a d : ℕ) → a < 2 ^ 63 → (d ≡ 0) ⊎ (d < 2 ^ 63 → ⊥) → a / d ≡ 0
none_left a d h (inl e) = rw e (div-zero a)
none_left a d h (inr l) = div-eq_of_lt (omega arith)

-- -1 below zero, else 0
pub floor_sign : (z : ℤ) (d : ℕ) → SFits w64 z → (d ≡ 0) ⊎ (d < 2 ^ 63 → ⊥) → pos 0 -ℤ pos (bool_byte (lt_z z (pos 0))) ≡ floor_div z d
unfolding floor_div
floor_sign (pos a) d f h = simp (none_left a d f.sfits h, le-ltb a 0 (omega arith))
floor_sign (negsuc a) d f h = rw (none_left a d f.sfits h) refl

pub sign_back : (b : Bool) → to_z w64 (of_z w64 (pos 0 -ℤ to_z w64 (of_z w64 (pos (bool_byte b))))) ≡ pos 0 -ℤ pos (bool_byte b)
sign_back true = refl
sign_back false = refl
