-- A sheet read back from its bytes, by someone who has the node totals and the share file: what its lines bring in.
use Rattle.std.specs.Prelude.{Bool, cond, List, [], ◌∷◌, ◌++◌, ℕ, ◌+◌, ◌*◌, ◌-◌, eqb, ℤ, pos, neg_ℤ, ◌+ℤ◌, ◌*ℤ◌, get_or, take, replicate}
use Rattle.meaning.specs.Text.{text}
use Rattle.meaning.specs.Name.{Name, same_name}
use Rattle.meaning.specs.declared.Edition.{Edition}
use Rattle.meaning.specs.declared.Form.{Form}
use Rattle.meaning.specs.declared.Form.TheVariants.{OneBackground, TwoBackgrounds, Sharing}
use Rattle.meaning.specs.declared.Background.{Background}
use Rattle.meaning.specs.declared.Background.TheVariants.{YearRound, Peak}
use Rattle.meaning.specs.declared.Side.{Side}
use Rattle.meaning.specs.Editions.{over_backgrounds}
use Rattle.meaning.specs.declared.Side.TheVariants.{Generation, Demand}
use Rattle.meaning.specs.Grid.{Grid, paying_tec, place}
use Rattle.meaning.specs.Sharing.{shared_kw, sharing_on}
use Rattle.meaning.specs.Figures.{zone_paying, zone_paying_in, sharing, form_of}
use Rattle.meaning.specs.Sheet.{letter}

-- a byte in front of the first piece
unfoldable pub with_front : ℕ → List (List ℕ) → List (List ℕ)
with_front b [] = (b ∷ []) ∷ []
with_front b (piece ∷ pieces) = (b ∷ piece) ∷ pieces

-- the pieces of a text between the bytes `mark`
unfoldable pub pieces : (mark : ℕ) → List ℕ → List (List ℕ)
pieces mark [] = [] ∷ []
pieces mark (b ∷ bs) = cond (eqb b mark) ([] ∷ pieces mark bs) (with_front b (pieces mark bs))

-- "Lines end with a line feed; fields are parted by one space": field k of a line
unfoldable pub field : ℕ → (line : List ℕ) → List ℕ
field k line = get_or (pieces 32 line) k []

-- a decimal number
unfoldable pub read_natural : ℕ → List ℕ → ℕ
read_natural so_far [] = so_far
read_natural so_far (digit ∷ digits) = read_natural (10 * so_far + (digit - 48)) digits

unfoldable pub read_whole : List ℕ → ℤ
read_whole [] = pos 0
read_whole (b ∷ bs) = cond (eqb b 45) (neg_ℤ (pos (read_natural 0 bs))) (pos (read_natural 0 (b ∷ bs)))

-- whether a line has this letter
unfoldable pub has_letter : List ℕ → (line : List ℕ) → Bool
has_letter l line = same_name (field 0 line) l

-- a name with its padding
unfoldable pub padded : List ℕ → Name
padded name = take 12 (name ++ replicate 12 32)

-- line k of a text
abbrev pub line_at : ℕ → (sheet : List ℕ) → List ℕ
line_at k sheet = get_or (pieces 10 sheet) k []

-- f of each line of a text, added up
unfoldable pub over_lines : (List ℕ → ℤ) → List (List ℕ) → ℤ
over_lines f [] = pos 0
over_lines f (line ∷ lines) = f line +ℤ over_lines f lines

-- where a zone's line has a background's metres, metres after C and tariff, the residual and the total, by number from 0
unfoldable pub metres_field : Form → Background → ℕ
metres_field OneBackground b = 2
metres_field TwoBackgrounds Peak = 2
metres_field TwoBackgrounds YearRound = 5
metres_field Sharing Peak = 2
metres_field Sharing YearRound = 5

abbrev pub tariff_field : Form → Background → ℕ
tariff_field form b = metres_field form b + 2

unfoldable pub residual_field : Form → ℕ
residual_field OneBackground = 5
residual_field TwoBackgrounds = 8
residual_field Sharing = 10

abbrev pub total_field : Form → ℕ
total_field form = residual_field form + 1

-- 02, request 6: the shared metres and the shared tariff that a line has; none where nothing is shared
unfoldable pub printed_shared_metres : Form → (line : List ℕ) → ℤ
printed_shared_metres OneBackground line = pos 0
printed_shared_metres TwoBackgrounds line = pos 0
printed_shared_metres Sharing line = read_whole (field 8 line)

unfoldable pub printed_shared_tariff : Form → (line : List ℕ) → ℤ
printed_shared_tariff OneBackground line = pos 0
printed_shared_tariff TwoBackgrounds line = pos 0
printed_shared_tariff Sharing line = read_whole (field 9 line)

-- the tariffs of a zone's line that its total has, added up: "the total leaves the shared tariff out"
abbrev pub printed_tariffs : Edition → Form → (line : List ℕ) → ℤ
printed_tariffs e form line = over_backgrounds e (λ b. read_whole (field (tariff_field form b) line))

module _ (G : Grid) (share : List ℕ) where
  open G use {settings, nodes}

  -- a zone's line: each background's tariff times the zone's kilowatts that pay in it, the shared tariff times those that the load factors leave,
  -- and the residual times those that pay; a line with `-` has none of these, and they read as 0
  unfoldable pub zone_income : Side → (line : List ℕ) → ℤ
  zone_income side line =
      let zone = read_natural 0 (field 1 line) in
      let form = form_of G share side in
      cond (has_letter (letter side) line) (
      over_backgrounds settings.edition (λ b. read_whole (field (tariff_field form b) line) *ℤ pos (zone_paying_in G b side zone))
      +ℤ printed_shared_tariff form line *ℤ pos (shared_kw (sharing_on side (sharing G share)) zone)
      +ℤ read_whole (field (residual_field form) line) *ℤ pos (zone_paying G side zone)) (pos 0)

  -- a node's line: its local tariff times the node's kilowatts that pay
  unfoldable pub node_income : (line : List ℕ) → ℤ
  node_income line =
      cond (has_letter (text "L") line) (read_whole (field 3 line) *ℤ pos (paying_tec G (place nodes (padded (field 1 line))))) (pos 0)

  -- what a line brings in to a side: to generation a `G` line and an `L` line, to demand a `D` line
  unfoldable pub line_income : Side → (line : List ℕ) → ℤ
  line_income Generation line = zone_income Generation line +ℤ node_income line
  line_income Demand line = zone_income Demand line

  -- "Income from the printed tariffs": of a side, and of both
  unfoldable pub side_income : Side → (sheet : List ℕ) → ℤ
  side_income side sheet = over_lines (line_income side) (pieces 10 sheet)

  unfoldable pub printed_income : (sheet : List ℕ) → ℤ
  printed_income sheet = side_income Generation sheet +ℤ side_income Demand sheet

-- "`R`, generation remainder, demand remainder"
unfoldable pub remainder_field : Side → ℕ
remainder_field Generation = 1
remainder_field Demand = 2

unfoldable pub printed_remainder : Side → (sheet : List ℕ) → ℤ
printed_remainder side sheet =
    over_lines (λ l. cond (has_letter (text "R") l) (read_whole (field (remainder_field side) l)) (pos 0)) (pieces 10 sheet)
