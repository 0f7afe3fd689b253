-- 7 and 13: what a total says, and what passes.
use mathlib.Core.Path.{◌≡◌, refl, sym, ap}
use mathlib.Core.Bool.{true}
use mathlib.Core.List.{List}
use Prim.Native.Nat.{ℕ, ◌+◌, ◌≤◌, ◌<◌}
use native.Mathlib.Decide.{dec_le}
use native.Mathlib.Omega.{arith}
use borrow.Author.Tests.{le-leb, lt-leb}
use lib.Dec.{leb}
use lib.ListN.{take}
use Rattle.std.proofs.lemmas.List.{get_or-take}
use Rattle.integers.specs.Numbers.{sum}
use Rattle.integers.proofs.Sum.{sum_more}
use Rattle.meaning.specs.declared.Kw.{Kw}
use Rattle.meaning.specs.Grid.{sound_totals}
use Rattle.meaning.specs.Columns.{kilowatts, kw_at}
use Rattle.meaning.proofs.Says.{agree}
use Rattle.meaning.proofs.Tables.{says_totals}
use Rattle.totals.specs.Totals.{total_of}

module _ (n : ℕ) (column : List Kw) where
  pub many_rows : 256 < n → kilowatts 100000001 ≡ total_of n column
  unfolding total_of
  many_rows h = rw (lt-leb n 256 h) refl

  pub much : n ≤ 256 → 100000000 < sum n (kw_at column) → kilowatts 100000001 ≡ total_of n column
  unfolding total_of
  much few h = rw (le-leb n 256 few, lt-leb (sum n (kw_at column)) 100000000 h) refl

  pub added_up : n ≤ 256 → sum n (kw_at column) ≤ 100000000 → kilowatts (sum n (kw_at column)) ≡ total_of n column
  unfolding total_of
  added_up few h = rw (le-leb n 256 few, le-leb (sum n (kw_at column)) 100000000 h) refl

  -- one more of the first n
  pub one_more : {total : ℕ} (i : ℕ) → total ≡ sum i (kw_at column) → i < n → total + kw_at (take n column) i ≡ sum (i + 1) (kw_at column)
  one_more i e h = omega (arith, e, sum_more i (kw_at column), ap (λ (k : Kw). k.0) (get_or-take n column i (kilowatts 0) h))

  -- a total in the range of 7 is the sum
  pub total_is : (total_of n column).0 ≤ 100000000 → (n ≤ 256) × ((total_of n column).0 ≡ sum n (kw_at column))
  total_is h = go (dec_le n 256) (dec_le (sum n (kw_at column)) 100000000)
    where
      go : Dec (n ≤ 256) → Dec (sum n (kw_at column) ≤ 100000000) → (n ≤ 256) × ((total_of n column).0 ≡ sum n (kw_at column))
      go (yes few) (yes small) = (few, ap (λ (k : Kw). k.0) (sym (added_up few small)))
      go (yes few) (no large) = absurd (omega (arith, h, ap (λ (k : Kw). k.0) (much few (omega arith))))
      go (no many) s = absurd (omega (arith, h, ap (λ (k : Kw). k.0) (many_rows (omega arith))))

  -- what 13 tests: a total of few rows is above 0 where their sum is
  pub some_total : n ≤ 256 → leb 1 (total_of n column).0 ≡ leb 1 (sum n (kw_at column))
  some_total few = go (dec_le (sum n (kw_at column)) 100000000)
    where
      go : Dec (sum n (kw_at column) ≤ 100000000) → leb 1 (total_of n column).0 ≡ leb 1 (sum n (kw_at column))
      go (yes small) = rw (← added_up few small) refl
      go (no large) = rw (← much few (omega arith)) (sym (le-leb 1 (sum n (kw_at column)) (omega arith)))

-- ---- what 7 tests, of totals and of the sums
module _ (n : ℕ) (demand tec : List Kw) where
  -- both totals are sums in their ranges, and there is enough TEC
  pub record Passed : Type 0 where
    pub few : n ≤ 256
    pub demand_is : (total_of n demand).0 ≡ sum n (kw_at demand)
    pub tec_is : (total_of n tec).0 ≡ sum n (kw_at tec)
    pub wanted : 1 ≤ sum n (kw_at demand)
    pub least : 1 ≤ sum n (kw_at tec)
    pub most : sum n (kw_at tec) ≤ 100000000
    pub enough : sum n (kw_at demand) ≤ sum n (kw_at tec)

  pub passed : sound_totals (total_of n demand).0 (total_of n tec).0 ≡ true → Passed
  passed h =
      let p = (says_totals _ _).0 h in
      let d = total_is n demand p.0.0.most in
      let t = total_is n tec p.0.1.most in
      record {
        few = d.0;
        demand_is = d.1;
        tec_is = t.1;
        wanted = omega (arith, d.1, p.0.0.least);
        least = omega (arith, t.1, p.0.1.least);
        most = omega (arith, t.1, p.0.1.most);
        enough = omega (arith, d.1, t.1, p.1);
      }

  -- 7 passes the totals of few rows where it passes their sums
  pub same_totals : n ≤ 256 → sound_totals (total_of n demand).0 (total_of n tec).0 ≡ sound_totals (sum n (kw_at demand)) (sum n (kw_at tec))
  same_totals few = agree _ _ (to, from) (λ e. e, λ e. e)
    where
      to : sound_totals (total_of n demand).0 (total_of n tec).0 ≡ true → sound_totals (sum n (kw_at demand)) (sum n (kw_at tec)) ≡ true
      to h = let p = passed h in rw (← p.demand_is, ← p.tec_is) h

      from : sound_totals (sum n (kw_at demand)) (sum n (kw_at tec)) ≡ true → sound_totals (total_of n demand).0 (total_of n tec).0 ≡ true
      from h =
          let p = (says_totals _ _).0 h in
          rw (← added_up n demand few p.0.0.most, ← added_up n tec few p.0.1.most) h
