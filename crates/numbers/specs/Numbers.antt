-- What 8, 9, 11 and 15 are said over: columns of numbers and of headings, the part of a network that 8 looks at, and the row that is found.
use Rattle.std.specs.Prelude.{Bool, not, ◌||◌, List, ℕ, leb, ℤ, pos, get_or}
use Rattle.std.proofs.Math.Option.{Option, none, some}
use Rattle.meaning.specs.declared.Background.{Background}
use Rattle.meaning.specs.declared.Background.TheVariants.{YearRound, Peak}
use Rattle.meaning.specs.declared.Counting.TheVariants.{For}
use Rattle.meaning.specs.declared.Edition.{Edition}
use Rattle.meaning.specs.Direction.{direction, in_doubt, counts_for, is_doubtful, background}
use Rattle.meaning.specs.Proposal.{same}
use Rattle.meaning.specs.Network.{Network}
use Rattle.numbers.specs.declared.Heading.{Heading}

-- one of two for each background
abbrev pub by_background : {A : Type 0} → (year_round peak : A) → Background → A
by_background year_round peak YearRound = year_round
by_background year_round peak Peak = peak

-- 01, 8 looks at no circuit: n nodes, and the reference whose potential is 0
abbrev pub pinned : (n reference : ℕ) → Network
pinned n reference =
    record {
      nodes = n;
      circuits = 0;
      reference = reference;
      first = λ c. 0;
      second = λ c. 0;
      x = λ c. 0;
    }

-- 9: whether row v of two columns is the same
abbrev pub even_in : (a b : List ℤ) → ℕ → Bool
even_in a b v = same (get_or a v (pos 0)) (get_or b v (pos 0))

-- 02, request 5: the background that a circuit counts for, and its base flow there
unfoldable pub heading_by : Edition → (mark : ℕ) (year_round peak : ℤ) → Heading
heading_by e mark year_round peak =
    let counting = counts_for e mark year_round peak in
    record { counting = counting; flow = by_background year_round peak (background counting) }

-- past the last circuit
abbrev pub no_heading : Heading
no_heading = record { counting = For YearRound; flow = pos 0 }

-- 15: a circuit has no length, or the background that it counts for is not in doubt
unfoldable pub decided_in : (length : ℕ) → Heading → Bool
decided_in length h = not (leb 1 length) || not (is_doubtful h.counting)

-- 11: a circuit has no length, or its own base flow is not in doubt
unfoldable pub clear_in : (length : ℕ) → Heading → Bool
clear_in length h = not (leb 1 length) || not (in_doubt (direction h.flow))

-- the same of circuit c of two columns
abbrev pub decided_by : (lengths : List ℕ) (headings : List Heading) → ℕ → Bool
decided_by lengths headings c = decided_in (get_or lengths c 0) (get_or headings c no_heading)

abbrev pub clear_by : (lengths : List ℕ) (headings : List Heading) → ℕ → Bool
clear_by lengths headings c = clear_in (get_or lengths c 0) (get_or headings c no_heading)

-- the row that was found, or n where none was
unfoldable pub row_of : Option ℕ → (n : ℕ) → ℕ
row_of none n = n
row_of (some i) n = i
