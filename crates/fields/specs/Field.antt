-- What a reader of a number answers.
use Rattle.std.specs.Prelude.{◌≡◌, List, ℕ, ◌<◌, ◌^◌}
use Rattle.meaning.specs.File.{u32}

-- r is the u32 at a place, and is one: bytes are below 256, which a list does not say
pub record Field (file : List ℕ) (at r : ℕ) : Type 0 where
  pub value : r ≡ u32 file at
  pub below : r < 2 ^ 32
