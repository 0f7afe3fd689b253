-- What a function does that writes a text into a lent buffer.
use Rattle.std.specs.Prelude.{ℕ, ◌≡◌, cond, List, ◌++◌, leb, length, drop}

-- the text stands at the front, the bytes behind it are untouched, and r is its length
pub record Written (text old new : List ℕ) (r : ℕ) : Type 0 where
  pub buffer : new ≡ text ++ drop (length text) old
  pub answer : r ≡ length text

-- r is the text's length; a buffer that holds the text has it at the front, with the bytes behind it untouched, and a shorter one is as it was
pub record Fitted (text old new : List ℕ) (r : ℕ) : Type 0 where
  pub answer : r ≡ length text
  pub buffer : new ≡ cond (leb (length text) (length old)) (text ++ drop (length text) old) old
