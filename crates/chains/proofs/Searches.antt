-- Searches over a range of numbers, as std's methods answer them.
use mathlib.Core.Path.{◌≡◌, refl, sym, ◌∙◌, ap, ap₂, fun_ext}
use mathlib.Core.Bool.{Bool, true, false, cond, ◌&&◌, ◌||◌}
use mathlib.Core.Option.{Option, none, some, none-ne-some}
use Prim.Native.Nat.{ℕ, zero, suc, ◌+◌, ◌≤◌, ◌<◌}
use native.Mathlib.Omega.{arith}
use Rattle.std.specs.Prelude.{Some, None, MatchOption}
use Rattle.std.specs.declared.option.Option.{Option as Answer}
use Rattle.std.specs.List.{range_with_len, list_all, list_any}
use Rattle.meaning.specs.Rows.{first_of, lowest, found, any, all}
use Rattle.meaning.proofs.Rows.{Lowest, nothing, first, lowest_is, lowest_stops, lowest_none}
use Rattle.chains.specs.Searches.{answered}

-- ---- whether all, or any, of the numbers from a on pass a test
all_front : (f : ℕ → Bool) (n : ℕ) → all f (suc n) ≡ (f 0 && all (λ i. f (suc i)) n)
unfolding all
all_front f zero = go (f 0)
  where
    go : (b : Bool) → (true && b) ≡ (b && true)
    go true = refl
    go false = refl
all_front f (suc n) = ap (λ (b : Bool). b && f (suc n)) (all_front f n) ∙ go (f 0)
  where
    go : (b : Bool) → ((b && all (λ i. f (suc i)) n) && f (suc n)) ≡ (b && (all (λ i. f (suc i)) n && f (suc n)))
    go true = refl
    go false = refl

all_range : (f : ℕ → Bool) (a n : ℕ) → list_all f (range_with_len a n) ≡ all (λ i. f (a + i)) n
unfolding all
all_range f a zero = refl
all_range f a (suc n) =
    ap₂ ◌&&◌ (ap f (omega arith)) (all_range f (a + 1) n ∙ ap (λ (g : ℕ → Bool). all g n) (fun_ext (λ i. ap f (omega arith))))
    ∙ sym (all_front (λ i. f (a + i)) n)

pub all_below : (f : ℕ → Bool) (n : ℕ) → list_all f (range_with_len 0 n) ≡ all f n
all_below f n = all_range f 0 n ∙ ap (λ (g : ℕ → Bool). all g n) (fun_ext (λ i. ap f (omega arith)))

any_more : (f : ℕ → Bool) (n : ℕ) → any f (suc n) ≡ (any f n || f n)
unfolding lowest found first_of
any_more f n = go (lowest f n) (f n)
  where
    go : (o : _) (b : Bool) → found (first_of o (cond b (some n) none)) ≡ (found o || b)
    go none true = refl
    go none false = refl
    go (some i) b = refl

any_front : (f : ℕ → Bool) (n : ℕ) → any f (suc n) ≡ (f 0 || any (λ i. f (suc i)) n)
unfolding lowest found
any_front f zero = any_more f 0 ∙ go (f 0)
  where
    go : (b : Bool) → (false || b) ≡ (b || false)
    go true = refl
    go false = refl
any_front f (suc n) = any_more f (suc n) ∙ ap (λ (b : Bool). b || f (suc n)) (any_front f n) ∙ go (f 0) ∙ ap (λ (b : Bool). f 0 || b) (sym (any_more (λ i. f (suc i)) n))
  where
    go : (b : Bool) → ((b || any (λ i. f (suc i)) n) || f (suc n)) ≡ (b || (any (λ i. f (suc i)) n || f (suc n)))
    go true = refl
    go false = refl

any_range : (f : ℕ → Bool) (a n : ℕ) → list_any f (range_with_len a n) ≡ any (λ i. f (a + i)) n
unfolding lowest found
any_range f a zero = refl
any_range f a (suc n) =
    ap₂ ◌||◌ (ap f (omega arith)) (any_range f (a + 1) n ∙ ap (λ (g : ℕ → Bool). any g n) (fun_ext (λ i. ap f (omega arith))))
    ∙ sym (any_front (λ i. f (a + i)) n)

pub any_from_one : (f : ℕ → Bool) (n : ℕ) → list_any f (range_with_len 1 n) ≡ any (λ i. f (suc i)) n
any_from_one f n = any_range f 1 n ∙ ap (λ (g : ℕ → Bool). any g n) (fun_ext (λ i. ap f (omega arith)))

-- ---- the lowest number that passes it
pub find_range : (test : ℕ → Bool) (n : ℕ) (r : Answer ℕ)
    → MatchOption r ((k : ℕ) → 0 ≤ k → k < n → test k ≡ false) (λ i. (0 ≤ i) × (i < n) × (test i ≡ true) × ((k : ℕ) → 0 ≤ k → k < i → test k ≡ false))
    → r ≡ answered (lowest test n)
unfolding answered
find_range test n None h = rw (lowest_none test n (λ j l. h j (omega arith) l)) refl
find_range test n (Some i) h = rw (lowest_stops test n i h.1 h.2 (λ j l. h.3 j (omega arith) l)) refl

-- what was found is the lowest, or there is none
pub answered_some : {A : Type 0} {o : Option A} {a : A} → answered o ≡ Some a → o ≡ some a
unfolding answered
answered_some {o = none} e = absurd (cc)
answered_some {o = some b} {a = a} e = let q : a ≡ b = cc in ap some (sym q)

pub answered_none : {A : Type 0} {o : Option A} → answered o ≡ None → o ≡ none
unfolding answered
answered_none {o = none} e = refl
answered_none {o = some b} e = absurd (cc)

pub answered_below : (test : ℕ → Bool) (n : ℕ) {i : ℕ} → answered (lowest test n) ≡ Some i → i < n
answered_below test n {i} e = go (lowest_is test n) (answered_some e)
  where
    go : {o : Option ℕ} → Lowest test n o → o ≡ some i → i < n
    go (nothing h) q = absurd (none-ne-some _ q)
    go (first j l t h) q = let r : j ≡ i = cc in omega arith
