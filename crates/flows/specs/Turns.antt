-- What one turn of a loop over circuits does, and what it asks.
use Rattle.std.specs.Prelude.{◌≡◌, cond, List, ℕ, ◌-◌, ◌≤◌, ◌<◌, ℤ, pos, nat_abs, ◌+ℤ◌, ◌-ℤ◌, ◌*ℤ◌, length, set}
use Rattle.meaning.specs.Network.{Network}
use Rattle.meaning.specs.Proposal.{potential, flow}
use Rattle.flows.specs.Flows.{number, circuits_in, in_ranges}

-- what a loop knows of the circuits that a run has a flow for
pub record Counted (n long m : ℕ) : Type 0 where
  pub is : m ≡ circuits_in n long
  pub few : m ≤ 512
  pub rows : m ≤ long - n

-- z more at row v
abbrev pub added : (net : List ℤ) (v : ℕ) → ℤ → List ℤ
added net v z = set net v (number net v +ℤ z)

-- net flows so far and a flow, of which no sum wraps
pub record Addable (net : List ℤ) (z : ℤ) : Type 0 where
  pub long : length net ≡ 256
  pub flow : nat_abs z ≤ 100000000000000
  pub each : (v : ℕ) → v < 256 → nat_abs (number net v) ≤ 200000000000000000

-- the magnitude of a miss; more than is allowed where a number is out of its range
unfoldable pub miss_size : (p q : ℤ) (x : ℕ) (flow offset : ℤ) → ℕ
miss_size p q x flow offset = cond (in_ranges p q x flow offset) (nat_abs (p -ℤ q -ℤ pos x *ℤ flow -ℤ offset)) 100000001

-- the same of circuit c
abbrev pub size_at : Network → (offset run : List ℤ) → ℕ → ℕ
size_at N offset run c = miss_size (potential run (N.first c)) (potential run (N.second c)) (N.x c) (flow N run c) (number offset c)
