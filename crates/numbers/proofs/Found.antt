-- The row that a search finds, or the count where it finds none.
use mathlib.Core.Path.{◌≡◌, refl, sym, ◌∙◌, ap}
use mathlib.Core.Bool.{Bool, true, false, not}
use mathlib.Core.Option.{Option, none, some}
use Prim.Native.Nat.{ℕ, ◌+◌, ◌≤◌, ◌<◌}
use native.Mathlib.Numerals.{add-one}
use native.Mathlib.Decide.{dec_lt}
use native.Mathlib.Omega.{arith}
use Rattle.meaning.specs.declared.Refusal.{Refusal}
use Rattle.std.specs.Prelude.{Ok, Err}
use Rattle.meaning.specs.Answers.{at}
use Rattle.meaning.specs.Rows.{failing}
use Rattle.meaning.proofs.Rows.{Lowest, nothing, first, lowest_is, lowest_stops, lowest_none}
use Rattle.numbers.specs.Numbers.{row_of}

-- the rows below i pass the test
pub record AllPass (test : ℕ → Bool) (i : ℕ) : Type 0 where
  pub each : (j : ℕ) → j < i → test j ≡ true

-- what a search answers: the row that fails, those below it passing, or the count
pub row_first : (test : ℕ → Bool) (n : ℕ) {r : ℕ} → r ≤ n → ((j : ℕ) → j < r → test j ≡ true) → (r < n → test r ≡ false) → r ≡ row_of (failing test n) n
unfolding row_of
row_first test n {r} within before here = go (dec_lt r n)
  where
    go : Dec (r < n) → r ≡ row_of (failing test n) n
    go (yes h) = rw (lowest_stops (λ j. not (test j)) n r h (ap not (here h)) (λ j k. ap not (before j k))) refl
    go (no h) = rw (lowest_none (λ j. not (test j)) n (λ j k. ap not (before j (omega arith)))) (omega arith)

-- what a caller learns of it
not_false : (b : Bool) → not b ≡ false → b ≡ true
not_false true e = refl
not_false false e = sym e

pub row_is : (test : ℕ → Bool) (n : ℕ) → row_of (failing test n) n < n → failing test n ≡ some (row_of (failing test n) n)
unfolding row_of
row_is test n = go (failing test n) (lowest_is (λ j. not (test j)) n)
  where
    go : (o : Option ℕ) → Lowest (λ j. not (test j)) n o → row_of o n < n → o ≡ some (row_of o n)
    go o (nothing g) h = absurd (omega arith)
    go o (first i k t g) h = refl

pub row_past : (test : ℕ → Bool) (n : ℕ) → n ≤ row_of (failing test n) n → (failing test n ≡ none) × AllPass test n
unfolding row_of
row_past test n = go (failing test n) (lowest_is (λ j. not (test j)) n)
  where
    go : (o : Option ℕ) → Lowest (λ j. not (test j)) n o → n ≤ row_of o n → (o ≡ none) × AllPass test n
    go o (nothing g) h = (refl, record { each = λ j k. not_false (test j) (g j k) })
    go o (first i k t g) h = absurd (omega arith)

-- a row that was found among more rows
module _ (test : ℕ → Bool) (n more row : ℕ) (h : n ≤ more) where
  pub row_below : row ≡ row_of (failing test more) more → row < n → failing test n ≡ some row
  unfolding row_of
  row_below = go (failing test more) (lowest_is (λ j. not (test j)) more)
    where
      go : (o : Option ℕ) → Lowest (λ j. not (test j)) more o → row ≡ row_of o more → row < n → failing test n ≡ some row
      go o (nothing g) e l = absurd (omega arith)
      go o (first i k t g) e l = lowest_stops (λ j. not (test j)) n i (omega arith) t g ∙ ap some (sym e)

  pub row_beyond : row ≡ row_of (failing test more) more → n ≤ row → failing test n ≡ none
  unfolding row_of
  row_beyond = go (failing test more) (lowest_is (λ j. not (test j)) more)
    where
      go : (o : Option ℕ) → Lowest (λ j. not (test j)) more o → row ≡ row_of o more → n ≤ row → failing test n ≡ none
      go o (nothing g) e l = lowest_none (λ j. not (test j)) n (λ j k. g j (omega arith))
      go o (first i k t g) e l = lowest_none (λ j. not (test j)) n (λ j k. g j (omega arith))

-- a stage that looks for the lowest row: what it says
pub row_stops : (test : ℕ → Bool) (n row : ℕ) (cause : ℕ → Refusal) → failing test n ≡ some row → Err (cause (row + 1)) ≡ at (failing test n) cause
unfolding at
row_stops test n row cause f = rw (add-one, f) refl

pub row_passes : (test : ℕ → Bool) (n : ℕ) (cause : ℕ → Refusal) → failing test n ≡ none → Ok tt ≡ at (failing test n) cause
unfolding at
row_passes test n cause f = rw f refl
