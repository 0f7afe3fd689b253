-- Bits of one word: what std's laws say of `|`, `&`, `!` and `<<`, of trailing zeros and of ones, in our words.
use Prim.Native.Nat.{ℕ, zero, suc, ◌+◌, ◌-◌, ◌/◌, ◌^◌, ◌<◌, max, min}
use mathlib.Core.Path.{◌≡◌, refl, sym, ap₂, ◌∙◌}
use mathlib.Core.Logic.{◌≢◌}
use native.Mathlib.Nat.{pow-succ'}
use native.Mathlib.Decide.{dec_lt}
use native.Mathlib.Omega.{arith}
use lib.Bits.{bit_or, bit_and}
use lib.Count.{ones, ones_step, count_trailing_zeros}
use mir.Syntax.{w64}
use Rattle.std.specs.Int.{bit_at}
use Rattle.std.proofs.lemmas.Nat.Bits.{bit_at-lt, bit_at-zero, bit_at_lowest, bit_at-suc, bit_at_or, bit_at_and, bit_at_not, bit_at_above, bit_at-pow_same, bit_at-pow_other, shr_and_one, bit_at-trailing_zeros, same_from_bits_below}
use Rattle.integers.specs.Numbers.{sum}
use Rattle.integers.proofs.Sum.{sum_front, sum_same}
use Rattle.bits.specs.Sets.{bit}
use Rattle.bits.specs.Words.{Lowest}

pub bit-lt : (w k : ℕ) → bit w k < 2
unfolding bit
bit-lt = bit_at-lt

pub bit_none : (k : ℕ) → bit 0 k ≡ 0
unfolding bit
bit_none = bit_at-zero

-- ---- bit by bit
pub bit-or : (a b k : ℕ) → bit (bit_or a b) k ≡ max (bit a k) (bit b k)
unfolding bit
bit-or = bit_at_or

-- the bits of a word that another does not have
pub bit_less : (w other k : ℕ) → w < 2 ^ 64 → other < 2 ^ 64 → bit (bit_and w (18446744073709551615 - other)) k ≡ bit w k - bit other k
unfolding bit
bit_less w other k h l = bit_at_and w _ k ∙ go (dec_lt k 64)
  where
    go : Dec (k < 64) → min (bit_at w k) (bit_at (18446744073709551615 - other) k) ≡ bit_at w k - bit_at other k
    go (yes i) = omega (arith, bit_at_not w64 other k l i, bit_at-lt w k, bit_at-lt other k)
    go (no i) = omega (arith, bit_at_above w 64 k h (omega arith))

-- ---- one bit
pub bit_pow_same : (k : ℕ) → bit (2 ^ k) k ≡ 1
unfolding bit
bit_pow_same = bit_at-pow_same

pub bit_pow_other : (j k : ℕ) → k ≢ j → bit (2 ^ j) k ≡ 0
unfolding bit
bit_pow_other = bit_at-pow_other

-- the test of one bit
pub and_one : (w k : ℕ) → bit_and (w / 2 ^ k) 1 ≡ bit w k
unfolding bit
and_one = shr_and_one

-- ---- trailing zeros
pub lowest_one : (w : ℕ) → 0 < w → w < 2 ^ 64 → Lowest w (count_trailing_zeros 64 w)
unfolding bit
lowest_one w p h = let (within, is_one, below) = bit_at-trailing_zeros w64 w p h in record { within = within; is_one = is_one; below = below }

-- ---- ones
pub ones_sum : (d w : ℕ) → w < 2 ^ d → ones w ≡ sum d (bit w)
unfolding ones sum bit
ones_sum zero w h = let e : w ≡ 0 = omega arith in rw e refl
ones_sum (suc d) w h =
    ones_step w
    ∙ ap₂ (λ (a b : ℕ). a + b) (sym (bit_at_lowest w)) (ones_sum d (w / 2) (omega (arith, pow-succ' 2 d)) ∙ sum_same d _ _ (λ k l. sym (bit_at-suc w k)))
    ∙ sym (sum_front d (bit w))

-- ---- a word of 64 bits is its bits
pub bits_same : (d a b : ℕ) → a < 2 ^ d → b < 2 ^ d → ((k : ℕ) → k < d → bit a k ≡ bit b k) → a ≡ b
unfolding bit
bits_same = same_from_bits_below
