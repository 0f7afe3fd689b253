-- 02, request 4: "one bit a node in four 64-bit words". A set of numbers as words: number n is bit n % 64 of word n / 64.
use Rattle.std.specs.Prelude.{◌≡◌, Bool, ◌&&◌, List, ℕ, ◌/◌, ◌%◌, ◌^◌, eqb, get_or}

-- bit k of a word, 0 or 1: bit 0 of 6 is 0, bits 1 and 2 are 1
unfoldable pub bit : (word k : ℕ) → ℕ
bit word k = word / 2 ^ k % 2

-- whether n is in the set; past the last word nothing is
unfoldable pub has : List ℕ → ℕ → Bool
has words n = eqb (bit (get_or words (n / 64) 0) (n % 64)) 1

-- whether n is one of the numbers of word w, where that word is so
unfoldable pub in_word : (w word n : ℕ) → Bool
in_word w word n = eqb (n / 64) w && eqb (bit word (n % 64)) 1

-- the words are the set of the numbers that pass the test
abbrev pub SetOf : List ℕ → (ℕ → Bool) → Type 0
SetOf words test = (n : ℕ) → has words n ≡ test n
