-- 01, steps 1 and 3, and 02, request 5: what runs in a background, and the supply of its base system, over columns as code has them.
use Rattle.std.specs.Prelude.{◌≡◌, Bool, cond, ◌&&◌, List, ℕ, ◌+◌, ◌-◌, ◌≤◌, ◌<◌, leb, ℤ, pos, ◌-ℤ◌, ◌*ℤ◌, replicate}
use Rattle.integers.specs.Numbers.{sum}
use Rattle.meaning.specs.declared.Background.TheVariants.{YearRound, Peak}
use Rattle.meaning.specs.declared.Kw.{Kw}
use Rattle.meaning.specs.declared.System.{System}
use Rattle.meaning.specs.declared.System.TheVariants.{Base, Wider, Local}
use Rattle.meaning.specs.Columns.{kilowatts, kw_at, column}
use Rattle.meaning.specs.Scaled.{scaled}
use Rattle.totals.specs.Totals.{total_of}

-- step 1: what node v runs of its variable TEC, of the demand that remains
abbrev pub scaled_by : (n : ℕ) (variable : List Kw) (remaining : Kw) → ℕ → ℕ
scaled_by n variable remaining = scaled n (kw_at variable) remaining.0

-- step 3: 1,000,000 times the net kW
abbrev pub net_supply : (generation demand : ℕ) → ℤ
net_supply generation demand = pos 1000000 *ℤ (pos generation -ℤ pos demand)

-- "the remaining demand"
abbrev pub remaining_of : (n : ℕ) (fixed demand : List Kw) → Kw
remaining_of n fixed demand = kilowatts (sum n (kw_at demand) - sum n (kw_at fixed))

-- the supply of node v, by the columns of fixed kilowatts, variable TEC and demand
abbrev pub supply_of : (n : ℕ) (fixed variable demand : List Kw) → ℕ → ℤ
supply_of n fixed variable demand v = net_supply (kw_at fixed v + scaled_by n variable (remaining_of n fixed demand) v) (kw_at demand v)

-- 7 and 14, as far as a sum needs them: totals in their range, fixed kilowatts not above demand, and enough variable TEC for what remains
unfoldable pub runnable : (fixed variable demand : ℕ) → Bool
runnable fixed variable demand = leb demand 100000000 && leb variable 100000000 && leb fixed demand && leb demand (fixed + variable)

-- the supply of each of n nodes in a background; nothing where its totals are not runnable
unfoldable pub base_supply : (n : ℕ) (fixed variable demand : List Kw) → List ℤ
base_supply n fixed variable demand =
    cond (runnable (total_of n fixed).0 (total_of n variable).0 (total_of n demand).0) (column (pos 0) 256 n (supply_of n fixed variable demand)) (replicate 256 (pos 0))

-- step 3: a base system's supply is its background's; step 5: supply 0
unfoldable pub supply_in : System → (year_round peak : List ℤ) → List ℤ
supply_in (Base YearRound) year_round peak = year_round
supply_in (Base Peak) year_round peak = peak
supply_in (Wider b) year_round peak = replicate 256 (pos 0)
supply_in Local year_round peak = replicate 256 (pos 0)

-- the variable TEC of n nodes, its total, and demand that remains for it to share
pub record Scalable (n : ℕ) (tec : List Kw) (demand total : Kw) : Type 0 where
  pub nodes : n ≤ 256
  pub all : total.0 ≡ sum n (kw_at tec)
  pub least : 1 ≤ total.0
  pub most : total.0 ≤ 100000000
  pub enough : demand.0 ≤ total.0

-- the same where none may remain
pub record Sharable (n : ℕ) (tec : List Kw) (demand total : Kw) : Type 0 where
  pub nodes : n ≤ 256
  pub all : total.0 ≡ sum n (kw_at tec)
  pub most : total.0 ≤ 100000000
  pub enough : demand.0 ≤ total.0

-- kilowatts of n nodes, each up to 10^8
pub record Small (n : ℕ) (all : List Kw) : Type 0 where
  pub each : (v : ℕ) → v < n → kw_at all v ≤ 100000000
