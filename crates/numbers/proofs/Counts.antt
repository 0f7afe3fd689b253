-- 02, request 5: the background that a circuit counts for, by its two base flows.
use mathlib.Core.Path.{◌≡◌, refl}
use mathlib.Core.Logic.{◌≢◌}
use Prim.Native.Nat.{ℕ, ◌+◌, ◌≤◌, ◌<◌}
use lib.IntN.{ℤ, nat_abs}
use borrow.Author.Tests.{le-leb, lt-leb, eq-eqb, ne_eqb}
use Rattle.meaning.specs.declared.Background.{Background}
use Rattle.meaning.specs.declared.Background.TheVariants.{YearRound, Peak}
use Rattle.meaning.specs.declared.Counting.{Counting}
use Rattle.meaning.specs.declared.Counting.TheVariants.{For, Doubtful}
use Rattle.meaning.specs.declared.Edition.{Edition}
use Rattle.meaning.specs.declared.Edition.TheVariants.{First, Second}
use Rattle.meaning.specs.Direction.{by_flows, counts_for, background}
use Rattle.numbers.specs.Numbers.{by_background, heading_by}

module _ (year_round peak : ℤ) where
  pub for_peak : nat_abs year_round ≤ nat_abs peak + 400000000 → For Peak ≡ by_flows year_round peak
  unfolding by_flows
  for_peak h = rw (le-leb _ _ h) refl

  module _ (g : nat_abs peak + 400000000 < nat_abs year_round) where
    pub between : nat_abs year_round ≤ nat_abs peak + 800000000 → Doubtful ≡ by_flows year_round peak
    unfolding by_flows
    between h = rw (lt-leb _ _ g, le-leb _ _ h) refl

    pub for_year_round : nat_abs peak + 800000000 < nat_abs year_round → For YearRound ≡ by_flows year_round peak
    unfolding by_flows
    for_year_round h = rw (lt-leb _ _ g, lt-leb _ _ h) refl

-- by the edition and the mark
module _ (e : Edition) (mark : ℕ) (year_round peak : ℤ) where
  pub first_counts : e ≡ First → For YearRound ≡ counts_for e mark year_round peak
  unfolding counts_for
  first_counts q = rw q refl

  pub unmarked_counts : e ≡ Second → mark ≡ 0 → by_flows year_round peak ≡ counts_for e mark year_round peak
  unfolding counts_for
  unmarked_counts q h = rw (q, eq-eqb mark 0 h) refl

  pub marked_counts : e ≡ Second → mark ≢ 0 → For YearRound ≡ counts_for e mark year_round peak
  unfolding counts_for
  marked_counts q h = rw (q, ne_eqb mark 0 h) refl

  -- the heading, by what was answered of it
  pub heading_is : (counting : Counting) → counting ≡ counts_for e mark year_round peak → (b : Background) → b ≡ background counting
      → record { counting = counting; flow = by_background year_round peak b } ≡ heading_by e mark year_round peak
  unfolding heading_by
  heading_is counting q b r = rw (r, q) refl
