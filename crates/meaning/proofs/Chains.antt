-- 02, request 6, chains: what `after` and `passes` compute is what `Passes` says. A chain that ends has ended when each zone has been passed:
-- with one number more a further zone ends, or else with no number more.
use mathlib.Core.Path.{◌≡◌, refl, sym, ◌∙◌, ap}
use mathlib.Core.Logic.{◌⊎◌, inl, inr, ◌≢◌}
use mathlib.Core.Bool.{Bool, true, false, cond, true≢false}
use mathlib.Core.List.{List}
use Prim.Native.Nat.{ℕ, zero, suc, ◌*◌, ◌-◌, ◌≤◌, ◌<◌}
use native.Mathlib.Omega.{arith}
use native.Mathlib.Decide.{dec_le, dec_lt}
use lib.Dec.{eqb}
use Rattle.integers.specs.Numbers.{sum}
use Rattle.meaning.specs.File.{u32}
use Rattle.meaning.specs.Rows.{◌between◌and◌}
use Rattle.meaning.proofs.Rows.{below_suc}
use Rattle.meaning.proofs.Says.{Says, says_eq, says_between, says_any, says_as}
use Rattle.meaning.specs.Conditions.{InRange}
use Rattle.meaning.specs.Sharing.{next_inward, after, Passes, here, inward, passes}

-- the numbers of a file: only a zone names one
pub record Inward (zones : ℕ) (next : ℕ → ℕ) : Type 0 where
  pub none : next 0 ≡ 0
  pub past : (z : ℕ) → zones < z → next z ≡ 0

-- ---- counting the numbers below n that pass a test
count : (ℕ → Bool) → ℕ → ℕ
count test n = sum n (λ v. cond (test v) 1 0)

abbrev Within : ℕ → (f g : ℕ → Bool) → Type 0
Within n f g = (v : ℕ) → v < n → f v ≡ true → g v ≡ true

one : (b : Bool) → cond b 1 0 ≤ 1
one true = omega arith
one false = omega arith

count-le : (test : ℕ → Bool) (n : ℕ) → count test n ≤ n
unfolding count sum
count-le test zero = omega arith
count-le test (suc n) = omega (arith, count-le test n, one (test n))

step_le : (a b : Bool) → (a ≡ true → b ≡ true) → cond a 1 0 ≤ cond b 1 0
step_le true true h = omega arith
step_le true false h = absurd (true≢false (sym (h refl)))
step_le false true h = omega arith
step_le false false h = omega arith

count_mono : (f g : ℕ → Bool) (n : ℕ) → Within n f g → count f n ≤ count g n
unfolding count sum
count_mono f g zero h = omega arith
count_mono f g (suc n) h = omega (arith, count_mono f g n (λ v k. h v (omega arith)), step_le (f n) (g n) (h n (omega arith)))

step_same : (a b : Bool) → cond b 1 0 ≤ cond a 1 0 → b ≡ true → a ≡ true
step_same true b h e = refl
step_same false true h e = absurd (omega arith)
step_same false false h e = e

count_same : (f g : ℕ → Bool) (n : ℕ) → Within n f g → count g n ≤ count f n → Within n g f
unfolding count sum
count_same f g zero h l v k = absurd (omega arith)
count_same f g (suc n) h l v k =
    go (count_same f g n lower (omega (arith, step_le (f n) (g n) (h n (omega arith))))) (below_suc n v k)
  where
    lower : Within n f g
    lower v k = h v (omega arith)

    go : Within n g f → (v < n) ⊎ (v ≡ n) → g v ≡ true → f v ≡ true
    go before (inl k) = before v k
    go before (inr e) = rw e (step_same (f n) (g n) (omega (arith, count_mono f g n lower)))

-- ---- the numbers of a file
pub next_inward_lem : (share : List ℕ) (zones : ℕ) → Inward zones (next_inward share zones)
unfolding next_inward
next_inward_lem share zones = record {
  none = out 0 (λ r. omega (arith, r.least));
  past = λ z h. out z (λ r. omega (arith, r.most));
}
  where
    out : (z : ℕ) → (InRange z 1 zones → ⊥) → cond (z between 1 and zones) (u32 share (4 * (z - 1))) 0 ≡ 0
    out z f = go (z between 1 and zones) refl
      where
        go : (b : Bool) → (z between 1 and zones) ≡ b → cond b (u32 share (4 * (z - 1))) 0 ≡ 0
        go true e = absurd (f (says_between.0 e))
        go false e = refl

module _ (next : ℕ → ℕ) where
  pub after_zero : (z : ℕ) → after next 0 z ≡ z
  unfolding after
  after_zero z = refl

  pub after_suc : (k z : ℕ) → after next (suc k) z ≡ after next k (next z)
  unfolding after
  after_suc k z = refl

  -- as a loop has it
  pub after_more : (k z : ℕ) → after next (suc k) z ≡ next (after next k z)
  unfolding after
  after_more zero z = refl
  after_more (suc k) z = after_more k (next z)

  -- Passes is by some number of steps
  pub passes_by : {z b : ℕ} → Passes next z b → (k : ℕ) × (after next k z ≡ b)
  passes_by {z} here = (0, after_zero z)
  passes_by {z} (inward p) = let r = passes_by p in (suc r.0, after_suc r.0 z ∙ r.1)

  pub by_passes : (k z b : ℕ) → after next k z ≡ b → Passes next z b
  by_passes zero z b e = rw (sym (after_zero z) ∙ e) here
  by_passes (suc k) z b e = inward (by_passes k (next z) b (sym (after_suc k z) ∙ e))

module _ {zones : ℕ} {next : ℕ → ℕ} (i : Inward zones next) where
  -- 0 leads to 0
  pub after_none : (k : ℕ) → after next k 0 ≡ 0
  after_none zero = after_zero next 0
  after_none (suc k) = after_suc next k 0 ∙ rw i.none (after_none k)

  -- an ended chain stays so
  pub ended_on : (k z : ℕ) → after next k z ≡ 0 → after next (suc k) z ≡ 0
  ended_on k z e = after_more next k z ∙ ap next e ∙ i.none

  pub ended_later : (k j z : ℕ) → k ≤ j → after next k z ≡ 0 → after next j z ≡ 0
  ended_later k zero z h e = let q : k ≡ 0 = omega arith in rw q at e
  ended_later k (suc j) z h e = go (λ l. ended_later k j z l e) (dec_le k j)
    where
      go : (k ≤ j → after next j z ≡ 0) → Dec (k ≤ j) → after next (suc j) z ≡ 0
      go before (yes l) = ended_on j z (before l)
      go before (no l) = let q : k ≡ suc j = omega arith in rw q at e

  -- ---- zones whose chain ends within k numbers
  ended : (k v : ℕ) → Bool
  ended k v = eqb (after next k (suc v)) 0

  abbrev Still : ℕ → Type 0
  Still k = Within zones (ended (suc k)) (ended k)

  keeps : (k : ℕ) → Within zones (ended k) (ended (suc k))
  unfolding ended
  keeps k v l e = says_eq.1 (ended_on k (suc v) (says_eq.0 e))

  -- once it stands still, nothing that ends later is left out; what is no zone has ended after one number
  still_on : (k n z : ℕ) → 1 ≤ k → Still k → after next n z ≡ 0 → after next k z ≡ 0
  unfolding ended
  still_on k zero z h s e = rw (sym (after_zero next z) ∙ e) (after_none k)
  still_on k (suc n) zero h s e = after_none k
  still_on k (suc n) (suc v) h s e = go (dec_lt v zones) (still_on k n (next (suc v)) h s (sym (after_suc next n (suc v)) ∙ e))
    where
      go : Dec (v < zones) → after next k (next (suc v)) ≡ 0 → after next k (suc v) ≡ 0
      go (yes l) f = says_eq.0 (s v l (says_eq.1 (after_suc next k (suc v) ∙ f)))
      go (no l) f = ended_later 1 k (suc v) h (after_suc next 0 (suc v) ∙ after_zero next (next (suc v)) ∙ i.past (suc v) (omega arith))

  -- with k + 1 numbers at least k zones have ended, or it stood still by then
  grows : (k : ℕ) → (k ≤ count (ended (suc k)) zones) ⊎ ((m : ℕ) × (1 ≤ m) × (m ≤ k) × Still m)
  grows zero = inl (omega arith)
  grows (suc k) = go (grows k)
    where
      go : (k ≤ count (ended (suc k)) zones) ⊎ ((m : ℕ) × (1 ≤ m) × (m ≤ k) × Still m)
          → (suc k ≤ count (ended (suc (suc k))) zones) ⊎ ((m : ℕ) × (1 ≤ m) × (m ≤ suc k) × Still m)
      go (inr w) = inr (w.0, w.1, omega (arith, w.2), w.3)
      go (inl h) = compared (dec_le (count (ended (suc (suc k))) zones) (count (ended (suc k)) zones))
        where
          compared : Dec (count (ended (suc (suc k))) zones ≤ count (ended (suc k)) zones)
              → (suc k ≤ count (ended (suc (suc k))) zones) ⊎ ((m : ℕ) × (1 ≤ m) × (m ≤ suc k) × Still m)
          compared (yes l) = inr (suc k, omega arith, omega arith, count_same (ended (suc k)) (ended (suc (suc k))) zones (keeps (suc k)) l)
          compared (no l) = inl (omega arith)

  stands : (m : ℕ) × (1 ≤ m) × (m ≤ suc zones) × Still m
  stands = go (grows (suc zones))
    where
      go : (suc zones ≤ count (ended (suc (suc zones))) zones) ⊎ ((m : ℕ) × (1 ≤ m) × (m ≤ suc zones) × Still m)
          → (m : ℕ) × (1 ≤ m) × (m ≤ suc zones) × Still m
      go (inl h) = absurd (omega (arith, count-le (ended (suc (suc zones))) zones))
      go (inr w) = w

  -- the law: what ends, has ended after zones + 1 numbers
  pub ends_by : (k z : ℕ) → after next k z ≡ 0 → after next (suc zones) z ≡ 0
  ends_by k z e =
      let w = stands in
      ended_later w.0 (suc zones) z w.2 (still_on w.0 k z w.1 w.3 e)

  pub says_ends : (z : ℕ) → Says (eqb (after next (suc zones) z) 0) (Passes next z 0)
  says_ends z = says_as says_eq (λ e. by_passes next (suc zones) z 0 e, λ p. let r = passes_by next p in ends_by r.0 z r.1)

  -- ---- where no zone names one absent, the chain of a zone ends one number sooner
  module _ (closed : (z : ℕ) → next z ≤ zones) where
    still_in : (k n z : ℕ) → z ≤ zones → Still k → after next n z ≡ 0 → after next k z ≡ 0
    unfolding ended
    still_in k zero z h s e = rw (sym (after_zero next z) ∙ e) (after_none k)
    still_in k (suc n) zero h s e = after_none k
    still_in k (suc n) (suc v) h s e =
        let f = still_in k n (next (suc v)) (closed (suc v)) s (sym (after_suc next n (suc v)) ∙ e) in
        says_eq.0 (s v h (says_eq.1 (after_suc next k (suc v) ∙ f)))

    grows_in : (k : ℕ) → (k ≤ count (ended k) zones) ⊎ ((m : ℕ) × (suc m ≤ k) × Still m)
    grows_in zero = inl (omega arith)
    grows_in (suc k) = go (grows_in k)
      where
        compared : k ≤ count (ended k) zones → Dec (count (ended (suc k)) zones ≤ count (ended k) zones)
            → (suc k ≤ count (ended (suc k)) zones) ⊎ ((m : ℕ) × (suc m ≤ suc k) × Still m)
        compared h (yes l) = inr (k, omega arith, count_same (ended k) (ended (suc k)) zones (keeps k) l)
        compared h (no l) = inl (omega arith)

        go : (k ≤ count (ended k) zones) ⊎ ((m : ℕ) × (suc m ≤ k) × Still m) → (suc k ≤ count (ended (suc k)) zones) ⊎ ((m : ℕ) × (suc m ≤ suc k) × Still m)
        go (inr w) = inr (w.0, omega (arith, w.1), w.2)
        go (inl h) = compared h (dec_le _ _)

    pub ends_in : (k z : ℕ) → z ≤ zones → after next k z ≡ 0 → after next zones z ≡ 0
    ends_in k z h e = go (grows_in (suc zones))
      where
        go : (suc zones ≤ count (ended (suc zones)) zones) ⊎ ((m : ℕ) × (suc m ≤ suc zones) × Still m) → after next zones z ≡ 0
        go (inl l) = absurd (omega (arith, count-le (ended (suc zones)) zones))
        go (inr w) = ended_later w.0 zones z (omega (arith, w.1)) (still_in w.0 k z h w.2 e)

  -- a chain that ends passes a zone exactly when it does so by as many numbers as there are zones
  pub says_passes : (z b : ℕ) → Passes next z 0 → b ≢ 0 → Says (passes next zones z b) (Passes next z b)
  unfolding passes
  says_passes z b ends some = says_as (says_any (suc zones) (λ k. says_eq {m = after next k z} {n = b})) (λ w. by_passes next w.0 z b w.2, λ p. there (passes_by next p))
    where
      there : (k : ℕ) × (after next k z ≡ b) → (k : ℕ) × (k < suc zones) × (after next k z ≡ b)
      there w = (w.0, go (dec_lt w.0 (suc zones)), w.1)
        where
          go : Dec (w.0 < suc zones) → w.0 < suc zones
          go (yes l) = l
          go (no l) = absurd (some (sym w.1 ∙ ended_later (suc zones) w.0 z (omega arith) (says_eq.0 ((says_ends z).1 ends))))
