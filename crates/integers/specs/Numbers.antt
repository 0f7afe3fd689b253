-- Whole numbers: sums over an index, and the two roundings of document 01.
use Rattle.std.specs.Prelude.{Bool, cond, ℕ, zero, suc, ◌+◌, ◌*◌, ◌/◌, ◌≤◌, ℤ, pos, negsuc, neg_ℤ, nat_abs, ◌+ℤ◌, ◌-ℤ◌, ◌*ℤ◌}

-- f 0 + .. + f (n − 1)
unfoldable pub sum : ℕ → (ℕ → ℕ) → ℕ
sum zero f = 0
sum (suc n) f = sum n f + f n

-- how many numbers below n pass the test
unfoldable pub count : (ℕ → Bool) → ℕ → ℕ
count test n = sum n (λ i. cond (test i) 1 0)

-- a sum of signed numbers
unfoldable pub Σ : ℕ → (ℕ → ℤ) → ℤ
Σ zero f = pos 0
Σ (suc n) f = Σ n f +ℤ f n

-- 01, step 10: z / d rounded down, also below zero: −(a + 1) / d is −(a / d) − 1
unfoldable pub floor_div : ℤ → ℕ → ℤ
floor_div (pos a) d = pos (a / d)
floor_div (negsuc a) d = negsuc (a / d)

-- a / d to the nearest, of a natural number, a half going up: the floor of (2a + d) / 2d
unfoldable pub rounded : ℕ → ℕ → ℕ
rounded a d = (2 * a + d) / (2 * d)

-- 01, Quantities: the nearest whole number to z / d. 02, request 2: "Nearest now always sends a half away from zero": the magnitude rounded, with its sign put back
unfoldable pub nearest : ℤ → ℕ → ℤ
nearest (pos a) d = pos (rounded a d)
nearest (negsuc a) d = neg_ℤ (pos (rounded (suc a) d))

-- k is a nearest whole number to z / d, whatever happens to a half: 2·|z − k·d| ≤ d
abbrev pub Near : (z : ℤ) (d : ℕ) (k : ℤ) → Type 0
Near z d k = nat_abs (pos 2 *ℤ (z -ℤ k *ℤ pos d)) ≤ d
