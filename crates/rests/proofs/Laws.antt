-- The arithmetic of a rest: it stands for its value, a tariff taken off in two steps is taken off exactly, and nothing passes 64 bits.
use mathlib.Core.Path.{◌≡◌, refl, sym, ◌∙◌, ap}
use mathlib.Core.Bool.{true, false, ◌&&◌}
use Prim.Native.Nat.{ℕ, ◌+◌, ◌*◌, ◌≤◌, ◌<◌}
use native.Mathlib.Nat.{mul-le-mul}
use native.Mathlib.Omega.{arith}
use lib.Dec.{leb}
use lib.IntN.{ℤ, pos, nat_abs, ◌+ℤ◌, ◌-ℤ◌, ◌*ℤ◌}
use lib.Signed.{◌≤ℤ◌}
use mir.Syntax.{w64}
use mir.Val.{SFits}
use Rattle.integers.specs.Numbers.{floor_div}
use Rattle.integers.proofs.Core.{Z}
use Rattle.integers.proofs.Laws.{abs_of_nonneg, abs-mul-le}
use Rattle.integers.proofs.Div.{floor_is, floor_add, floor_within, floor_abs}
use Rattle.meaning.proofs.Says.{Says, says_as, ◌also◌, says_le, says_lt}
use Rattle.rests.specs.declared.Rest.{Rest}
use native.Mathlib.Numerals.{add-one}
use Rattle.meaning.specs.Charging.{residual_of, remainder_of}
use Rattle.rests.specs.Rests.{value_of, rest_over, no_rest, start_of, in_range, InRange, Divides, less_of, less_to}

-- ---- z over d
module _ (z : ℤ) (d : ℕ) (some : 1 ≤ d) where
  -- what is left is not below 0
  pub left_nonneg : pos 0 ≤ℤ (z -ℤ floor_div z d *ℤ pos d)
  left_nonneg = simp Z (omega (arith, simp Z at (floor_is z d some).low))

  pub left_is : pos (nat_abs (z -ℤ floor_div z d *ℤ pos d)) ≡ z -ℤ floor_div z d *ℤ pos d
  left_is = abs_of_nonneg _ left_nonneg

  pub left_below : nat_abs (z -ℤ floor_div z d *ℤ pos d) < d
  left_below = let e = left_is in omega (arith, simp Z at e, simp Z at (floor_is z d some).high)

  pub rest_value : floor_div z d *ℤ pos d +ℤ pos (nat_abs (z -ℤ floor_div z d *ℤ pos d)) ≡ z
  rest_value = rw left_is (simp Z (omega arith))

module _ (z : ℤ) (d : ℕ) (r : Divides z d) where
  pub product_fits : SFits w64 (floor_div z d *ℤ pos d)
  product_fits = simp Z (omega (arith, simp Z at (floor_is z d r.some).low, simp Z at (floor_is z d r.some).high, r.most, simp Z at r.near))

  pub left_fits : SFits w64 (z -ℤ floor_div z d *ℤ pos d)
  left_fits = simp Z (omega (arith, simp Z at (floor_is z d r.some).low, simp Z at (floor_is z d r.some).high, r.most))

-- ---- the test of the ranges
pub says_divides : (z : ℤ) (d : ℕ) → (leb 1 d && leb d 100000000 && leb (nat_abs z) 1000000000000000000) ≡ true → Divides z d
says_divides z d e =
    let t : ((1 ≤ d) × (d ≤ 100000000)) × (nat_abs z ≤ 1000000000000000000) = (says_le also says_le also says_le).0 e in
    record { some = t.0.0; most = t.0.1; near = omega (arith, t.1) }

pub says_in_range : (each : ℤ) (over payers : ℕ) (tariff : ℤ) (kw : ℕ) → Says (in_range each over payers tariff kw) (InRange each over payers tariff kw)
unfolding in_range
says_in_range each over payers tariff kw =
    says_as (says_le also says_le also says_lt also says_le also says_le also says_le)
    (λ t. record { some = t.0.0.0.0.0; most = t.0.0.0.0.1; below = t.0.0.0.1; part = t.0.0.1; near = t.0.1; price = t.1 }, λ r. (((((r.some, r.most), r.below), r.part), r.near), r.price))

-- ---- a tariff of `high` millions and `low`, on kw of payers kilowatts; high × kw is `whole` for each and `part` besides
module _ (each : ℤ) (over payers : ℕ) (tariff : ℤ) (kw : ℕ) where
  abbrev pub high : ℤ
  high = floor_div tariff 1000000

  abbrev pub low : ℕ
  low = nat_abs (tariff -ℤ floor_div tariff 1000000 *ℤ pos 1000000)

  abbrev pub whole : ℤ
  whole = floor_div (high *ℤ pos kw) payers

  abbrev pub part : ℕ
  part = nat_abs (high *ℤ pos kw -ℤ whole *ℤ pos payers)

  abbrev pub last : ℤ
  last = pos over -ℤ pos part *ℤ pos 1000000 -ℤ pos low *ℤ pos kw

  module _ (r : InRange each over payers tariff kw) where
    pub taken_is : value_of each over payers -ℤ tariff *ℤ pos kw ≡ last +ℤ (each -ℤ whole *ℤ pos 1000000) *ℤ pos payers
    unfolding value_of
    taken_is =
        let t = rest_value tariff 1000000 (omega arith) in
        let p = rest_value (high *ℤ pos kw) payers r.some in
        ap (λ (x : ℤ). each *ℤ pos payers +ℤ pos over -ℤ x *ℤ pos kw) (sym t) ∙ simp Z (omega (arith, simp Z at p))

    pub taken_each : floor_div (value_of each over payers -ℤ tariff *ℤ pos kw) payers ≡ each -ℤ whole *ℤ pos 1000000 +ℤ floor_div last payers
    taken_each = rw taken_is (floor_add last (each -ℤ whole *ℤ pos 1000000) payers r.some ∙ simp Z (omega arith))

    same_left : (x e : ℤ) → x -ℤ floor_div x payers *ℤ pos payers ≡ x +ℤ e *ℤ pos payers -ℤ (e +ℤ floor_div x payers) *ℤ pos payers
    same_left x e = simp Z (omega arith)

    pub taken_rest : record { each = each -ℤ whole *ℤ pos 1000000 +ℤ floor_div last payers; over = nat_abs (last -ℤ floor_div last payers *ℤ pos payers) }
        ≡ rest_over (value_of each over payers -ℤ tariff *ℤ pos kw) payers
    unfolding rest_over remainder_of residual_of
    taken_rest = rw (taken_each, taken_is, same_left last (each -ℤ whole *ℤ pos 1000000)) refl

    -- ---- nothing passes 64 bits
    pub high_within : nat_abs high ≤ 1000000
    high_within = floor_within tariff 1000000 1000000 (omega (arith, r.price))

    pub low_within : low < 1000000
    low_within = left_below tariff 1000000 (omega arith)

    pub share_within : nat_abs (high *ℤ pos kw) ≤ 1000000 * payers
    share_within = abs-mul-le high (pos kw) high_within r.part

    pub whole_within : nat_abs whole ≤ 1000000
    whole_within = floor_within (high *ℤ pos kw) 1000000 payers share_within

    pub part_within : part < payers
    part_within = left_below (high *ℤ pos kw) payers r.some

    pub low_kw : low * kw ≤ 1000000 * 100000000
    low_kw =
        let h : low ≤ 1000000 = omega (arith, low_within) in
        let k : kw ≤ 100000000 = omega (arith, r.part, r.most) in
        mul-le-mul h k

    pub last_within : nat_abs last ≤ 200000100000000
    last_within = simp Z (omega (arith, low_kw, part_within, r.below, r.most))

    pub more_within : nat_abs (floor_div last payers) ≤ 200000100000000
    more_within = omega (arith, floor_abs last payers, last_within)

    pub tariff_divides : Divides tariff 1000000
    tariff_divides = record { some = omega arith; most = omega arith; near = omega (arith, r.price) }

    pub share_divides : Divides (high *ℤ pos kw) payers
    share_divides = record { some = r.some; most = r.most; near = omega (arith, share_within, r.most) }

    pub last_divides : Divides last payers
    last_divides = record { some = r.some; most = r.most; near = omega (arith, last_within) }

-- ---- what the functions say
module _ (r : Rest) (payers : ℕ) (tariff : ℤ) (kw : ℕ) where
  pub less_in : in_range r.each r.over payers tariff kw ≡ true → less_of r payers tariff kw ≡ rest_over (value_of r.each r.over payers -ℤ tariff *ℤ pos kw) payers
  unfolding less_of
  less_in e = rw e refl

  pub less_out : in_range r.each r.over payers tariff kw ≡ false → less_of r payers tariff kw ≡ r
  unfolding less_of
  less_out e = rw e refl

pub start_in : (target : ℤ) (payers : ℕ) → (leb 1 payers && leb payers 100000000 && leb (nat_abs target) 1000000000000000000) ≡ true → start_of target payers ≡ rest_over target payers
unfolding start_of
start_in target payers e = rw e refl

pub start_out : (target : ℤ) (payers : ℕ) → (leb 1 payers && leb payers 100000000 && leb (nat_abs target) 1000000000000000000) ≡ false → start_of target payers ≡ no_rest
unfolding start_of
start_out target payers e = rw e refl

module _ (r : Rest) (payers : ℕ) (tariff : ℕ → ℤ) (kw : ℕ → ℕ) where
  pub less_none : less_to r payers tariff kw 0 ≡ r
  unfolding less_to
  less_none = refl

  pub less_more : (n : ℕ) → less_to r payers tariff kw (n + 1) ≡ less_of (less_to r payers tariff kw n) payers (tariff n) (kw n)
  unfolding less_to
  less_more n = rw add-one refl

  -- the same as a loop has it: a tariff more is taken off
  pub less_turn : {left after : Rest} (n : ℕ) {t : ℤ} → left ≡ less_to r payers tariff kw n → t ≡ tariff n → after ≡ less_of left payers t (kw n) → after ≡ less_to r payers tariff kw (n + 1)
  less_turn n e q a = a ∙ rw (e, q) (sym (less_more n))
