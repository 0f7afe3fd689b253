-- Step 4: the direction of a flow by the tests that it passes.
use mathlib.Core.Path.{◌≡◌, refl}
use mathlib.Core.Bool.{true, false}
use native.Mathlib.Omega.{arith}
use lib.Dec.{leb}
use lib.IntN.{ℤ, pos, negsuc, nat_abs}
use lib.Signed.{non_neg, ◌≤ℤ◌, ◌<ℤ◌}
use Rattle.integers.proofs.Core.{Z}
use Rattle.meaning.specs.declared.Direction.TheVariants.{Idle, Forward, Backward, InDoubt}
use Rattle.meaning.specs.Direction.{direction}

below_zero : (z : ℤ) → z <ℤ pos 0 → non_neg z ≡ false
below_zero (pos n) h = let k = simp Z at h in absurd (omega arith)
below_zero (negsuc n) h = refl

from_zero : (z : ℤ) → pos 0 ≤ℤ z → non_neg z ≡ true
from_zero (pos n) h = refl
from_zero (negsuc n) h = absurd h.le

module _ (flow : ℤ) where
  pub idle : leb (nat_abs flow) 200000000 ≡ true → Idle ≡ direction flow
  unfolding direction
  idle a = rw a refl

  pub in_doubt : leb (nat_abs flow) 200000000 ≡ false → leb (nat_abs flow) 400000000 ≡ true → InDoubt ≡ direction flow
  unfolding direction
  in_doubt a b = rw (a, b) refl

  pub backward : leb (nat_abs flow) 200000000 ≡ false → leb (nat_abs flow) 400000000 ≡ false → flow <ℤ pos 0 → Backward ≡ direction flow
  unfolding direction
  backward a b h = rw (a, b, below_zero flow h) refl

  pub forward : leb (nat_abs flow) 200000000 ≡ false → leb (nat_abs flow) 400000000 ≡ false → pos 0 ≤ℤ flow → Forward ≡ direction flow
  unfolding direction
  forward a b h = rw (a, b, from_zero flow h) refl
