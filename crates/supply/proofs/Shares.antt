-- Step 1: shares, the missing kilowatts and who is handed one, as a loop adds them up.
use mathlib.Core.Path.{◌≡◌, refl, ◌∙◌, ap}
use mathlib.Core.Bool.{Bool, true, false, cond}
use mathlib.Core.List.{List}
use Prim.Native.Nat.{ℕ, ◌+◌, ◌*◌, ◌/◌, ◌%◌, ◌≤◌, ◌<◌}
use native.Mathlib.Nat.{mul-le-mul}
use native.Mathlib.Omega.{arith}
use lib.Dec.{eqb, ltb}
use lib.ListN.{replicate}
use Rattle.integers.specs.Numbers.{sum}
use Rattle.integers.proofs.Sum.{sum-le, sum_part, sum_item, sum_more, sum_bound}
use Rattle.meaning.specs.declared.Kw.{Kw}
use Rattle.meaning.specs.Scaled.{whole_share, left_over, missing, scaled}
use Rattle.meaning.proofs.Shares.{scaled_sum}
use Rattle.meaning.proofs.Generation.{scaled_nought}
use Rattle.meaning.specs.Columns.{kilowatts, kw_at, column}
use Rattle.meaning.proofs.Rows.{rows_none}
use Rattle.supply.specs.Supply.{scaled_by, Scalable}

pub product_small : (tec demand : ℕ) → tec ≤ 100000000 → demand ≤ 100000000 → tec * demand ≤ 10000000000000000
product_small tec demand h k = mul-le-mul h k

one_at_most : (b : Bool) → cond b 0 1 ≤ 1
one_at_most true = omega arith
one_at_most false = omega arith

module _ (n : ℕ) (tec : List Kw) (demand total : Kw) (s : Scalable n tec demand total) where
  abbrev pub share_at : ℕ → ℕ
  share_at = whole_share n (kw_at tec) demand.0

  abbrev pub over_at : ℕ → ℕ
  over_at = left_over n (kw_at tec) demand.0

  abbrev pub scaled_at : ℕ → ℕ
  scaled_at = scaled n (kw_at tec) demand.0

  pub tec_small : (v : ℕ) → v < n → kw_at tec v ≤ 100000000
  tec_small v h = omega (arith, sum_item n v (kw_at tec) h, s.all, s.most)

  all_scaled : sum n scaled_at ≡ demand.0
  all_scaled = scaled_sum n (kw_at tec) demand.0 (omega (arith, s.all, s.least))

  pub scaled_small : (v : ℕ) → v < n → scaled_at v ≤ 100000000
  scaled_small v h = omega (arith, sum_item n v scaled_at h, all_scaled, s.most, s.enough)

  shares_fit_lem : sum n share_at ≤ demand.0
  unfolding scaled
  shares_fit_lem = omega (arith, sum-le n share_at scaled_at (λ v h. omega arith), all_scaled)

  pub share_small : (v : ℕ) → v < n → share_at v ≤ 100000000
  share_small v h = omega (arith, sum_item n v share_at h, shares_fit_lem, s.most, s.enough)

  -- what a call answered is the definition's
  pub share_is : (v : ℕ) → kw_at tec v * demand.0 / total.0 ≡ share_at v
  unfolding whole_share
  share_is v = ap (λ (t : ℕ). kw_at tec v * demand.0 / t) s.all

  pub over_is : (v : ℕ) → cond (eqb (kw_at tec v * demand.0 % total.0) 0) 0 1 ≡ over_at v
  unfolding left_over
  over_is v = ap (λ (t : ℕ). cond (eqb (kw_at tec v * demand.0 % t) 0) 0 1) s.all

  pub over_one : (v : ℕ) → over_at v ≤ 1
  unfolding left_over
  over_one v = one_at_most (eqb (kw_at tec v * demand.0 % sum n (kw_at tec)) 0)

  pub before_small : (v : ℕ) → v < n → sum v over_at ≤ 256
  before_small v h = omega (arith, sum_bound 1 v over_at (λ k l. over_one k), s.nodes)

  -- ---- the missing kilowatts, less each share in turn
  pub missing_holds : (left v : ℕ) → left + sum v share_at ≡ demand.0 → v < n → share_at v ≤ left
  missing_holds left v e h = omega (arith, sum_part (v + 1) n share_at (omega arith), sum_more v share_at, shares_fit_lem)

  pub missing_all : (left : ℕ) → left + sum n share_at ≡ demand.0 → left ≡ missing n (kw_at tec) demand.0
  unfolding missing
  missing_all left e = omega arith

  -- ---- a node's scaled generation, from what was answered of it
  pub scaled_is : (v share over before left : ℕ) → share ≡ share_at v → over ≡ over_at v → before ≡ sum v over_at → left ≡ missing n (kw_at tec) demand.0
      → share + cond (ltb before left) over 0 ≡ scaled_at v
  unfolding scaled
  scaled_is v share over before left e f g h = rw (e, f, g, h) refl

-- ---- none remains: nothing is divided, and every node runs 0
pub none_shared : (n : ℕ) (tec : List Kw) (demand : Kw) → demand.0 ≡ 0 → replicate 256 (kilowatts 0) ≡ column (kilowatts 0) 256 n (λ v. kilowatts (scaled_by n tec demand v))
unfolding column
none_shared n tec demand e = rows_none 256 _ (kilowatts 0) (λ v h. none_at v (ltb v n))
  where
    none_at : (v : ℕ) (b : Bool) → cond b (kilowatts (scaled_by n tec demand v)) (kilowatts 0) ≡ kilowatts 0
    none_at v true = ap kilowatts (ap (λ (d : ℕ). scaled n (kw_at tec) d v) e ∙ scaled_nought n (kw_at tec) v)
    none_at v false = refl
