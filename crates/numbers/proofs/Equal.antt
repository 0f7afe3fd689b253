-- Equal numbers.
use mathlib.Core.Path.{◌≡◌, ap}
use mathlib.Core.Logic.{◌≢◌}
use mathlib.Core.Bool.{true, false}
use native.Mathlib.Omega.{arith}
use lib.IntN.{ℤ, pos, nat_abs, ◌-ℤ◌}
use borrow.Author.Tests.{eq-eqb, ne_eqb}
use Rattle.integers.proofs.Core.{P, N, Z, ext, abs_parts}
use Rattle.meaning.specs.Proposal.{same}

pub same_yes : (y z : ℤ) → y ≡ z → same y z ≡ true
same_yes y z e = eq-eqb (nat_abs (y -ℤ z)) 0 (omega (arith, abs_parts (y -ℤ z), ap P (same_is y z e), ap N (same_is y z e)))
  where
    same_is : (y z : ℤ) → y ≡ z → y -ℤ z ≡ pos 0
    same_is y z = simp Z (omega arith)

pub same_no : (y z : ℤ) → y ≢ z → same y z ≡ false
same_no y z d = ne_eqb (nat_abs (y -ℤ z)) 0 (λ e. d (equal y z (parts_zero (y -ℤ z) e)))
  where
    parts_zero : (w : ℤ) → nat_abs w ≡ 0 → w ≡ pos 0
    parts_zero w e = ext w (pos 0) (omega (arith, abs_parts w)) (omega (arith, abs_parts w))

    equal : (y z : ℤ) → y -ℤ z ≡ pos 0 → y ≡ z
    equal y z = simp Z (omega arith)
