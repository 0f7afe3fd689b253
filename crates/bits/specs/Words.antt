-- A word's lowest bit that is 1.
use Rattle.std.specs.Prelude.{◌≡◌, ℕ, ◌<◌}
use Rattle.bits.specs.Sets.{bit}

pub record Lowest (word k : ℕ) : Type 0 where
  pub within : k < 64
  pub is_one : bit word k ≡ 1
  pub below : (j : ℕ) → j < k → bit word j ≡ 0
