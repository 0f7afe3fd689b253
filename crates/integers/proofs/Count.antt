-- How many numbers below n pass a test.
use mathlib.Core.Path.{◌≡◌, refl, sym, ap, ◌∙◌}
use mathlib.Core.Logic.{◌⊎◌, inl, inr}
use mathlib.Core.Bool.{Bool, true, false, cond, true≢false}
use Prim.Native.Nat.{ℕ, zero, suc, ◌+◌, ◌-◌, ◌≤◌, ◌<◌}
use native.Mathlib.Omega.{arith}
use native.Mathlib.Decide.{dec_lt, dec_le}
use Rattle.integers.specs.Numbers.{sum, count}
use Rattle.integers.proofs.Sum.{sum_none, sum_split}

-- every number below n that passes the one passes the other
abbrev pub Within : ℕ → (f g : ℕ → Bool) → Type 0
Within n f g = (v : ℕ) → v < n → f v ≡ true → g v ≡ true

last_or : (n v : ℕ) → v < suc n → (v < n) ⊎ (v ≡ n)
last_or n v h = go (dec_lt v n)
  where
    go : Dec (v < n) → (v < n) ⊎ (v ≡ n)
    go (yes k) = inl k
    go (no k) = inr (omega arith)

one : (b : Bool) → cond b 1 0 ≤ 1
one true = omega arith
one false = omega arith

pub count-le : (test : ℕ → Bool) (n : ℕ) → count test n ≤ n
unfolding count sum
count-le test zero = omega arith
count-le test (suc n) = omega (arith, count-le test n, one (test n))

step_le : (a b : Bool) → (a ≡ true → b ≡ true) → cond a 1 0 ≤ cond b 1 0
step_le true true h = omega arith
step_le true false h = absurd (true≢false (sym (h refl)))
step_le false true h = omega arith
step_le false false h = omega arith

pub count_mono : (f g : ℕ → Bool) (n : ℕ) → Within n f g → count f n ≤ count g n
unfolding count sum
count_mono f g zero h = omega arith
count_mono f g (suc n) h = omega (arith, count_mono f g n (λ v k. h v (omega arith)), step_le (f n) (g n) (h n (omega arith)))

-- a test that more numbers pass, but no larger number of them, is passed by the same
step_same : (a b : Bool) → cond b 1 0 ≤ cond a 1 0 → b ≡ true → a ≡ true
step_same true b h e = refl
step_same false true h e = absurd (omega arith)
step_same false false h e = e

pub count_same : (f g : ℕ → Bool) (n : ℕ) → Within n f g → count g n ≤ count f n → Within n g f
unfolding count sum
count_same f g zero h l v k = absurd (omega arith)
count_same f g (suc n) h l v k =
    go (count_same f g n lower (omega (arith, step_le (f n) (g n) (h n (omega arith))))) (last_or n v k)
  where
    lower : Within n f g
    lower v k = h v (omega arith)

    go : Within n g f → (v < n) ⊎ (v ≡ n) → g v ≡ true → f v ≡ true
    go before (inl k) = before v k
    go before (inr e) = rw e (step_same (f n) (g n) (omega (arith, count_mono f g n lower)))

pub count-pos : (test : ℕ → Bool) (n v : ℕ) → v < n → test v ≡ true → 1 ≤ count test n
unfolding count sum
count-pos test zero v k e = absurd (omega arith)
count-pos test (suc n) v k e = go (λ l. count-pos test n v l e) (last_or n v k)
  where
    go : (v < n → 1 ≤ count test n) → (v < n) ⊎ (v ≡ n) → 1 ≤ count test n + cond (test n) 1 0
    go before (inl l) = omega (arith, before l)
    go before (inr l) = rw (sym (ap test l) ∙ e) (omega arith)

-- one more that passes makes the count larger
pub count_more : (f g : ℕ → Bool) (n v : ℕ) → Within n f g → v < n → f v ≡ false → g v ≡ true → count f n < count g n
count_more f g n v h k e t = go (dec_le (count g n) (count f n))
  where
    go : Dec (count g n ≤ count f n) → count f n < count g n
    go (yes l) = absurd (true≢false (sym (count_same f g n h l v k t) ∙ e))
    go (no l) = omega arith

-- where as many pass as there are numbers below n, and none from n on, each below n passes
pub count_full : (test : ℕ → Bool) (n m : ℕ) → n ≤ m → ((v : ℕ) → n ≤ v → test v ≡ false) → count test m ≡ n → (v : ℕ) → v < n → test v ≡ true
unfolding count
count_full test n m h none e v k = count_same test (λ _. true) n (λ _ _ _. refl) (omega (arith, below, count-le (λ _. true) n)) v k refl
  where
    f : ℕ → ℕ
    f i = cond (test i) 1 0

    rest : sum (m - n) (λ i. f (n + i)) ≡ 0
    rest = sum_none (m - n) _ (λ i _. rw (none (n + i) (omega arith)) refl)

    whole : sum (n + (m - n)) f ≡ n
    whole = let q : n + (m - n) ≡ m = omega arith in rw q e

    below : sum n f ≡ n
    below = omega (arith, sum_split n (m - n) f, rest, whole)
