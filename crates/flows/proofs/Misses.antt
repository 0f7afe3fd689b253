-- 10: the miss of one circuit, and the sum of their magnitudes as far as it is added.
use mathlib.Core.Path.{◌≡◌, refl, sym, ◌∙◌, ap}
use mathlib.Core.Bool.{Bool, true, false, ◌&&◌}
use mathlib.Core.List.{List}
use Prim.Native.Nat.{ℕ, ◌+◌, ◌≤◌, ◌<◌}
use native.Mathlib.Omega.{arith}
use lib.Dec.{leb}
use lib.IntN.{ℤ, pos, nat_abs, ◌-ℤ◌, ◌*ℤ◌}
use borrow.Author.Tests.{lt-leb, le-leb}
use mir.Syntax.{w64}
use mir.Val.{SFits}
use Rattle.integers.specs.Numbers.{sum}
use Rattle.integers.proofs.Laws.{abs-sub, abs-mul-le, sfits_abs}
use Rattle.integers.proofs.Sum.{sum_part, sum_item, sum_more, sum_same}
use Rattle.meaning.specs.Rows.{all}
use Rattle.meaning.specs.Network.{Network}
use Rattle.meaning.specs.Proposal.{potential, flow, miss, miss_sum}
use Rattle.meaning.proofs.Says.{Says, agree, says_as, says_le, says_all, ◌also◌}
use Rattle.flows.specs.Flows.{number, net_of, in_ranges, measured, misses_low}
use Rattle.flows.specs.Turns.{miss_size, size_at}

-- ---- what a miss is made of, in range
pub record Ranged (p q : ℤ) (x : ℕ) (flow offset : ℤ) : Type 0 where
  pub from : nat_abs p ≤ 2000000000000000000
  pub to : nat_abs q ≤ 2000000000000000000
  pub times : x ≤ 10000
  pub carries : nat_abs flow ≤ 100000000000000
  pub less : nat_abs offset ≤ 30000000000000000

module _ (p q : ℤ) (x : ℕ) (flow offset : ℤ) where
  pub says_ranged : Says (in_ranges p q x flow offset) (Ranged p q x flow offset)
  unfolding in_ranges
  says_ranged =
      says_as (says_le also says_le also says_le also says_le also says_le)
      (λ t. record { from = t.0.0.0.0; to = t.0.0.0.1; times = t.0.0.1; carries = t.0.1; less = t.1 }, λ r. ((((r.from, r.to), r.times), r.carries), r.less))

  pub tested_are : (a b d e : Bool) → a ≡ leb (nat_abs p) 2000000000000000000 → b ≡ leb (nat_abs q) 2000000000000000000 → d ≡ leb (nat_abs flow) 100000000000000
      → e ≡ leb (nat_abs offset) 30000000000000000 → in_ranges p q x flow offset ≡ (a && b && leb x 10000 && d && e)
  unfolding in_ranges
  tested_are a b d e f g h i = rw (f, g, h, i) refl

  pub size_in : in_ranges p q x flow offset ≡ true → nat_abs (p -ℤ q -ℤ pos x *ℤ flow -ℤ offset) ≡ miss_size p q x flow offset
  unfolding miss_size
  size_in e = rw e refl

  pub size_out : in_ranges p q x flow offset ≡ false → 100000001 ≡ miss_size p q x flow offset
  unfolding miss_size
  size_out e = rw e refl

  -- no step wraps
  module _ (r : Ranged p q x flow offset) where
    drop_small : nat_abs (p -ℤ q) ≤ 4000000000000000000
    drop_small = omega (arith, abs-sub p q, r.from, r.to)

    pub drop_fits : SFits w64 (p -ℤ q)
    drop_fits = sfits_abs _ (omega (arith, drop_small))

    carried_small : nat_abs (pos x *ℤ flow) ≤ 1000000000000000000
    carried_small = abs-mul-le (pos x) flow r.times r.carries

    pub carried_fits : SFits w64 (pos x *ℤ flow)
    carried_fits = sfits_abs _ (omega (arith, carried_small))

    rest_small : nat_abs (p -ℤ q -ℤ pos x *ℤ flow) ≤ 5000000000000000000
    rest_small = omega (arith, abs-sub (p -ℤ q) (pos x *ℤ flow), drop_small, carried_small)

    pub rest_fits : SFits w64 (p -ℤ q -ℤ pos x *ℤ flow)
    rest_fits = sfits_abs _ (omega (arith, rest_small))

    pub miss_small : nat_abs (p -ℤ q -ℤ pos x *ℤ flow -ℤ offset) ≤ 5030000000000000000
    miss_small = omega (arith, abs-sub (p -ℤ q -ℤ pos x *ℤ flow) offset, rest_small, r.less)

    pub miss_fits : SFits w64 (p -ℤ q -ℤ pos x *ℤ flow -ℤ offset)
    miss_fits = sfits_abs _ (omega (arith, miss_small))

  pub size_most : miss_size p q x flow offset ≤ 5030000000000000000
  size_most = go (in_ranges p q x flow offset) refl
    where
      go : (b : Bool) → in_ranges p q x flow offset ≡ b → miss_size p q x flow offset ≤ 5030000000000000000
      go true e = rw (← size_in e) (miss_small (says_ranged.0 e))
      go false e = rw (← size_out e) (omega arith)

  low_size : miss_size p q x flow offset ≤ 100000000 → in_ranges p q x flow offset ≡ true
  low_size h = go (in_ranges p q x flow offset) refl
    where
      go : (b : Bool) → in_ranges p q x flow offset ≡ b → in_ranges p q x flow offset ≡ true
      go true e = e
      go false e = absurd (omega (arith, size_out e))

-- ---- the sum of the misses
module _ (n : ℕ) (first second x : List ℕ) (offset run : List ℤ) where
  abbrev N : Network
  N = net_of n 0 first second x run

  abbrev sizes : ℕ
  sizes = sum N.circuits (size_at N offset run)

  abbrev misses : ℕ
  misses = miss_sum N (number offset) (potential run) (flow N run)

  abbrev AllRanged : Type 0
  AllRanged = (c : ℕ) → c < N.circuits → measured N offset run c ≡ true

  sizes_are : AllRanged → sizes ≡ misses
  unfolding miss_sum miss
  sizes_are h = sum_same N.circuits (size_at N offset run) _ (λ c l. sym (size_in _ _ _ _ _ (h c l)))

  all_ranged : Says (all (measured N offset run) N.circuits) AllRanged
  all_ranged = says_all N.circuits (λ c. (λ e. e, λ e. e))

  -- as far as it is added, it decides
  decided : leb sizes 100000000 ≡ misses_low n first second x offset run
  unfolding misses_low
  decided =
      agree (leb sizes 100000000) _ {P = AllRanged × (misses ≤ 100000000)}
      (says_as (says_le {m = sizes} {n = 100000000}) (λ h. (ranged h, omega (arith, sizes_are (ranged h))), λ t. omega (arith, sizes_are t.0, t.1)))
      (all_ranged also says_le)
    where
      ranged : sizes ≤ 100000000 → AllRanged
      ranged h c l = low_size _ _ _ _ _ (omega (arith, sum_item N.circuits c (size_at N offset run) l))

  -- what the code adds at a circuit, and its sum with it
  pub size_told : (c : ℕ) {v : ℕ} {p q : ℤ} → p ≡ number run (N.first c) → q ≡ number run (N.second c)
      → v ≡ miss_size p q (N.x c) (number run (n + c)) (number offset c) → v ≡ size_at N offset run c
  size_told c ep eq ev = rw (ev, ep, eq) refl

  pub sum_told : (c : ℕ) {total v : ℕ} → total ≡ sum c (size_at N offset run) → v ≡ size_at N offset run c → total + v ≡ sum (c + 1) (size_at N offset run)
  sum_told c et ev = omega (arith, sum_more c (size_at N offset run), et, ev)

  pub too_high : (c total : ℕ) → c ≤ N.circuits → total ≡ sum c (size_at N offset run) → 100000000 < total → false ≡ misses_low n first second x offset run
  too_high c total h e l = sym (lt-leb sizes 100000000 (omega (arith, sum_part c N.circuits (size_at N offset run) h))) ∙ decided

  pub all_low : (c total : ℕ) → c ≡ N.circuits → total ≡ sum c (size_at N offset run) → total ≤ 100000000 → true ≡ misses_low n first second x offset run
  all_low c total h e l = sym (le-leb sizes 100000000 (omega (arith, ap (λ i. sum i (size_at N offset run)) h))) ∙ decided

-- ---- what a caller learns, of numbers in their ranges
module _ (n reference : ℕ) (first second x : List ℕ) (offset run : List ℤ) where
  abbrev whole : Network
  whole = net_of n reference first second x run

  pub misses_are : ((c : ℕ) → c < whole.circuits → Ranged (potential run (whole.first c)) (potential run (whole.second c)) (whole.x c) (flow whole run c) (number offset c))
      → misses_low n first second x offset run ≡ leb (miss_sum whole (number offset) (potential run) (flow whole run)) 100000000
  unfolding misses_low miss_sum miss
  misses_are h = rw ((all_ranged n first second x offset run).1 (λ c l. (says_ranged _ _ _ _ _).1 (h c l))) refl
