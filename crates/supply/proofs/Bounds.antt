-- Step 3: the supply of a node in a background, where its totals are runnable; no step wraps.
use mathlib.Core.Path.{◌≡◌, refl, sym, ◌∙◌, ap}
use mathlib.Core.Bool.{true, false}
use mathlib.Core.List.{List}
use Prim.Native.Nat.{ℕ, ◌+◌, ◌-◌, ◌≤◌, ◌<◌}
use native.Mathlib.Omega.{arith}
use lib.IntN.{ℤ, pos, ◌-ℤ◌}
use lib.ListN.{get_or, replicate}
use mir.Syntax.{w64}
use mir.Val.{SFits}
use Rattle.integers.proofs.Core.{Z}
use Rattle.integers.specs.Numbers.{sum}
use Rattle.integers.proofs.Sum.{sum_item}
use Rattle.meaning.specs.declared.Kw.{Kw}
use Rattle.meaning.specs.Columns.{kilowatts, kw_at, column}
use Rattle.meaning.proofs.Columns.{column_at, column_same}
use Rattle.meaning.proofs.Says.{Says, says_as, says_le, ◌also◌}
use Rattle.meaning.proofs.Generation.{scaled_fits}
use Rattle.supply.specs.Supply.{scaled_by, net_supply, remaining_of, supply_of, runnable, base_supply, Sharable, Small}
use Rattle.totals.specs.Totals.{total_of}
use Rattle.totals.proofs.TotalLaws.{total_is, added_up}

pub net_fits : (a d : ℕ) → a ≤ 200000000 → d ≤ 100000000 → SFits w64 (pos a -ℤ pos d)
net_fits a d = simp Z (omega arith)

pub supply_fits : (a d : ℕ) → a ≤ 200000000 → d ≤ 100000000 → SFits w64 (net_supply a d)
supply_fits a d = simp Z (omega arith)

-- ---- what is tested of three totals
pub record Runs (fixed variable demand : ℕ) : Type 0 where
  pub demand_most : demand ≤ 100000000
  pub variable_most_lem : variable ≤ 100000000
  pub below : fixed ≤ demand
  pub enough : demand ≤ fixed + variable

module _ (fixed variable demand : ℕ) where
  pub says_runs : Says (runnable fixed variable demand) (Runs fixed variable demand)
  unfolding runnable
  says_runs =
      says_as (says_le also says_le also says_le also says_le)
      (λ t. record { demand_most = t.0.0.0; variable_most_lem = t.0.0.1; below = t.0.1; enough = t.1 }, λ r. (((r.demand_most, r.variable_most_lem), r.below), r.enough))

-- ---- the supply of each node, by the totals that were tested
module _ (n : ℕ) (fixed variable demand : List Kw) where
  module _ (least most wanted : Kw) (f : least ≡ total_of n fixed) (t : most ≡ total_of n variable) (w : wanted ≡ total_of n demand) where
    tested : runnable least.0 most.0 wanted.0 ≡ runnable (total_of n fixed).0 (total_of n variable).0 (total_of n demand).0
    tested = rw (f, t, w) refl

    pub refused : runnable least.0 most.0 wanted.0 ≡ false → replicate 256 (pos 0) ≡ base_supply n fixed variable demand
    unfolding base_supply
    refused h = rw (sym tested ∙ h) refl

    module _ (h : runnable least.0 most.0 wanted.0 ≡ true) where
      p : Runs least.0 most.0 wanted.0
      p = (says_runs least.0 most.0 wanted.0).0 h

      total : (all : List Kw) (k : Kw) → k ≡ total_of n all → k.0 ≤ 100000000 → (n ≤ 256) × (k.0 ≡ sum n (kw_at all))
      total all k e l = let q = total_is n all (rw e at l) in (q.0, ap (λ (k : Kw). k.0) e ∙ q.1)

      fixed_is : least.0 ≡ sum n (kw_at fixed)
      fixed_is = (total fixed least f (omega (arith, p.below, p.demand_most))).1

      wanted_is : wanted.0 ≡ sum n (kw_at demand)
      wanted_is = (total demand wanted w p.demand_most).1

      pub few : n ≤ 256
      few = (total demand wanted w p.demand_most).0

      pub not_below : least.0 ≤ wanted.0
      not_below = p.below

      -- what remains, as it was worked out
      module _ (remaining : Kw) (r : remaining.0 ≡ wanted.0 - least.0) where
        remaining_is : remaining.0 ≡ (remaining_of n fixed demand).0
        remaining_is = omega (arith, fixed_is, wanted_is)

        pub can_share : Sharable n variable remaining most
        can_share = record {
          nodes = few;
          all = (total variable most t p.variable_most_lem).1;
          most = p.variable_most_lem;
          enough = omega (arith, p.below, p.enough);
        }

        pub small_fixed : Small n fixed
        small_fixed = record { each = λ v l. omega (arith, sum_item n v (kw_at fixed) l, fixed_is, p.below, p.demand_most) }

        pub small_demand : Small n demand
        small_demand = record { each = λ v l. omega (arith, sum_item n v (kw_at demand) l, wanted_is, p.demand_most) }

        -- what was made of the variable TEC
        module _ (made : List Kw) (e : made ≡ column (kilowatts 0) 256 n (λ v. kilowatts (scaled_by n variable remaining v))) where
          made_at : (v : ℕ) → v < n → kw_at made v ≡ scaled_by n variable remaining v
          made_at v l = ap (λ (g : List Kw). kw_at g v) e ∙ ap (λ (k : Kw). k.0) (column_at (kilowatts 0) 256 _ (kilowatts 0) n v l (omega (arith, few)))

          pub small_made : Small n made
          small_made = record {
            each = λ v l. omega (
              arith,
              scaled_fits n (kw_at variable) remaining.0 (omega (arith, can_share.all, can_share.enough)) v,
              sum_item n v (kw_at variable) l,
              can_share.all,
              p.variable_most_lem,
              made_at v l,
            );
          }

          supply_is : (v : ℕ) → v < n → net_supply (kw_at fixed v + kw_at made v) (kw_at demand v) ≡ supply_of n fixed variable demand v
          supply_is v l = ap (λ (a : ℕ). net_supply (kw_at fixed v + a) (kw_at demand v)) (made_at v l ∙ ap (λ (d : ℕ). scaled_by n variable (kilowatts d) v) remaining_is)

          pub supplied : (r : List ℤ) → r ≡ column (pos 0) 256 n (λ v. net_supply (kw_at fixed v + kw_at made v) (kw_at demand v)) → r ≡ base_supply n fixed variable demand
          unfolding base_supply
          supplied r q =
              q ∙ column_same (pos 0) 256 n (λ v. net_supply (kw_at fixed v + kw_at made v) (kw_at demand v)) (supply_of n fixed variable demand) supply_is
              ∙ rw (sym tested ∙ h) refl

  -- what a caller learns of few nodes, where neither 7 nor 14 refuses their totals
  pub base_supply_at : n ≤ 256 → Runs (sum n (kw_at fixed)) (sum n (kw_at variable)) (sum n (kw_at demand))
      → (v : ℕ) → v < n → get_or (base_supply n fixed variable demand) v (pos 0) ≡ supply_of n fixed variable demand v
  unfolding base_supply
  base_supply_at few r v l =
      rw (
        ← added_up n fixed few (omega (arith, r.below, r.demand_most)),
        ← added_up n variable few r.variable_most_lem,
        ← added_up n demand few r.demand_most,
        (says_runs _ _ _).1 r,
      ) (column_at (pos 0) 256 (supply_of n fixed variable demand) (pos 0) n v l (omega arith))
