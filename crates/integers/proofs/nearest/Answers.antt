-- `integers::nearest` meets its contract: of the magnitude rounded, w, the number is w, or -w, which fits at w = 2^63 too.
use mathlib.Core.Path.{◌≡◌, refl, sym, ◌∙◌, ap}
use Prim.Native.Nat.{ℕ, zero, suc, ◌-◌, ◌%◌, ◌^◌, ◌≤◌, ◌<◌}
use native.Mathlib.Nat.{mod-eq_of_lt}
use native.Mathlib.Omega.{arith}
use borrow.Author.Tests.{le-ltb}
use lib.IntN.{ℤ, pos, negsuc, neg_ℤ, nat_abs}
use lib.Signed.{◌≤ℤ◌, ◌<ℤ◌}
use mir.Syntax.{w64}
use mir.Val.{SFits, to_z}
use Rattle.std.proofs.lemmas.Int.{of_z-to_z}
use Rattle.integers.specs.Numbers.{rounded}
use Rattle.integers.proofs.Core.{Z}
use Rattle.integers.proofs.Laws.{abs_of_nonneg, abs_of_neg}
use Rattle.integers.proofs.Div.{rounded_most}
use Rattle.integers.proofs.Half.{nearest_nonneg, nearest_neg}
use Rattle.integers.proofs.Machine.{Back, fit_back, back, of_nat, lt_true, lt_false}
use Rattle.integers.proofs.nearest.Goals as goal
use Rattle.integers.proofs.nearest.Goals.{After-cast_signed-whole, Else-z-lt0, Start, Then-z-lt0}

-- the negative of a number that is read as signed
minus_bits : (n : ℕ) → n ≤ 2 ^ 63 → to_z w64 ((2 ^ 64 - n) % 2 ^ 64) ≡ neg_ℤ (pos n)
minus_bits zero h = refl
minus_bits (suc n) h =
    rw (mod-eq_of_lt {n = 2 ^ 64 - suc n} {m = 2 ^ 64} (omega arith), le-ltb (2 ^ 64 - suc n) (2 ^ 63) (omega arith)) (ap negsuc (omega arith))

module _ (z : ℤ) (d : ℕ) (f : SFits w64 z) where
  above_fits : pos 0 ≤ℤ z → rounded (nat_abs z) d < 2 ^ 63
  above_fits h = omega (arith, rounded_most (nat_abs z) d, simp Z at (abs_of_nonneg z h), simp Z at f)

  below_fits : z <ℤ pos 0 → rounded (nat_abs z) d ≤ 2 ^ 63
  below_fits h = omega (arith, rounded_most (nat_abs z) d, simp Z at (abs_of_neg z (simp Z (omega (arith, simp Z at h)))), simp Z at f)

bz : (s : Start) → Back s.args.z
bz s = fit_back s.ranges.z

called : (c : After-cast_signed-whole) → c.rounded.result ≡ rounded (nat_abs c.args.z) c.args.d
called c = simp bz at (rw c.magnitude.ensures at c.rounded.ensures)

neg : (c : Then-z-lt0) → c.args.z <ℤ pos 0
neg c = lt_true (simp bz at c.if-z-lt0.true)

nonneg : (c : Else-z-lt0) → pos 0 ≤ℤ c.args.z
nonneg c = lt_false (simp bz at c.if-z-lt0.false)

pub returns-then-z-lt0 : goal.returns-then-z-lt0
returns-then-z-lt0 c =
    let a = c.args in
    let whole = called c.before.before in
    let turned = simp (of_z-to_z w64 _ c.rounded.type_inv) at (rw c.cast_signed-whole.ensures at c.wrapping_neg.ensures) in
    back _ c.wrapping_neg.type_inv ∙ turned ∙ rw whole (minus_bits _ (below_fits a.z a.d c.ranges.z (neg c.before))) ∙ sym (nearest_neg a.z a.d (neg c.before))

pub returns-else-z-lt0 : goal.returns-else-z-lt0
returns-else-z-lt0 c =
    let a = c.args in
    back _ c.cast_signed-whole.type_inv
    ∙ c.cast_signed-whole.ensures
    ∙ rw (called c.before) (of_nat _ (above_fits a.z a.d c.ranges.z (nonneg c)))
    ∙ sym (nearest_nonneg a.z a.d (nonneg c))
