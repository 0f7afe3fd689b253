-- Whether names are in the file.
use Rattle.std.specs.Prelude.{◌≡◌, Bool, true, false, List, ℕ, ◌+◌, ◌≤◌, ◌<◌, max, length}

-- r says whether the 12 bytes at two places are all in the file
pub record Inside (file : List ℕ) (a b : ℕ) (r : Bool) : Type 0 where
  pub both : r ≡ true → (a + 12 ≤ length file) × (b + 12 ≤ length file)
  pub cut : r ≡ false → length file < max a b + 12
