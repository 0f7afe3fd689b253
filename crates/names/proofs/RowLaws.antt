-- A search among rows, from the rows that have passed by.
use mathlib.Core.Path.{◌≡◌, refl}
use mathlib.Core.Bool.{Bool, true, false}
use mathlib.Core.Option.{get_or}
use Prim.Native.Nat.{ℕ, ◌+◌, ◌≤◌, ◌<◌}
use native.Mathlib.Omega.{arith}
use Rattle.meaning.specs.declared.Section.{Section}
use Rattle.meaning.specs.Rows.{lowest, found}
use Rattle.meaning.specs.Name.{Name, same_name}
use Rattle.meaning.specs.File.{row_at}
use Rattle.meaning.specs.Tables.{seen_earlier}
use Rattle.meaning.proofs.Frame.{row_rise}
use Rattle.meaning.proofs.Rows.{Passed, passed_stops, passed_all, any_intro}

-- a row's name is in the file where the end of the rows is so
pub row_below : (rows : Section) (i n : ℕ) {e : ℕ} → i ≤ n → row_at rows n + 12 ≤ e → row_at rows i + 12 ≤ e
row_below rows i n h k = omega (arith, row_rise rows i n h)

module _ {test : ℕ → Bool} where
  pub search_stops : (n i : ℕ) → Passed test i → i < n → test i ≡ true → i ≡ get_or (lowest test n) n
  search_stops n i p h e = rw (passed_stops p h e) refl

  pub search_ends : (n i : ℕ) → Passed test i → i ≤ n → n ≤ i → n ≡ get_or (lowest test n) n
  search_ends n i p h k = let e : i ≡ n = omega arith in rw (passed_all (rw e at p)) refl

-- a row by the rows before it
module _ (name : ℕ → Name) (row : ℕ) where
  pub seen : (j : ℕ) → j < row → same_name (name j) (name row) ≡ true → seen_earlier name row ≡ true
  unfolding seen_earlier
  seen j h e = any_intro (λ j. same_name (name j) (name row)) row j h e

  pub unseen : (j : ℕ) → Passed (λ j. same_name (name j) (name row)) j → j ≤ row → row ≤ j → seen_earlier name row ≡ false
  unfolding seen_earlier found
  unseen j p h k = let e : j ≡ row = omega arith in rw (passed_all (rw e at p)) refl
