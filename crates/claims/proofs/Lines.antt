-- The lines of a sheet, each as its fields: what F of a line's fields adds to the whole, and how the numbers of a zone's line read back.
use mathlib.Core.Path.{◌≡◌, refl, sym}
use mathlib.Core.List.{List, [], ◌∷◌}
use mathlib.Core.Bool.{Bool, true, false, cond, true≢false}
use Prim.Native.Nat.{ℕ, zero, suc, ◌≤◌, ◌<◌}
use native.Mathlib.Omega.{arith}
use lib.Dec.{eqb}
use lib.IntN.{ℤ, pos, ◌+ℤ◌}
use lib.ListN.{get_or}
use Rattle.integers.specs.Numbers.{Σ}
use Rattle.meaning.specs.Study.{MicroPerKw}
use Rattle.meaning.specs.declared.Form.{Form}
use Rattle.meaning.specs.declared.Form.TheVariants.{OneBackground, TwoBackgrounds, Sharing}
use Rattle.meaning.specs.declared.Background.{Background}
use Rattle.meaning.specs.declared.Background.TheVariants.{YearRound, Peak}
use Rattle.meaning.specs.Editions.{Of}
use Rattle.meaning.specs.declared.Side.{Side}
use Rattle.meaning.specs.declared.Side.TheVariants.{Generation, Demand}
use Rattle.meaning.specs.declared.ZoneFigures.{ZoneFigures}
use Rattle.meaning.specs.Text.{text, decimals, line}
use Rattle.meaning.specs.Sheet.{constant_fields, letter, zone_numbers, zone_fields, node_fields, node_line, remainder_fields, Shown, zone_row, zone_lines, node_lines, sheet_text}
use Rattle.meaning.specs.Read.{pieces, read_natural, read_whole, metres_field, tariff_field, residual_field, total_field, printed_shared_metres, printed_shared_tariff}
use Rattle.meaning.specs.Read as read
use Rattle.meaning.proofs.Shared.{form_edition}
use Rattle.sizes.proofs.SheetLength.{figures_in}
use Rattle.meaning.proofs.Says.{Says, says_eq}
use Rattle.claims.proofs.Digits.{From, none, more, from_lower, natural_from, decimal_from, read_decimal}
use Rattle.claims.proofs.Pieces.{Fields, end, field, Adds, adds_none, adds_line, adds_append, adds_joined}

-- the fields of each line
abbrev pub Line : Type 0
Line = List (List ℕ)

-- what each line is worth: a node's line is worth 0 where it is not printed
pub record Worth (s : Shown) (F : Line → ℤ) (zone : Side → ℕ → ℤ) (local : ℕ → ℤ) (left : ℤ) : Type 0 where
  pub start : F (constant_fields s.edition s.c s.peak_c) ≡ pos 0
  pub zones : (side : Side) (k : ℕ) → F (zone_row side (s.side side) k) ≡ zone side k
  pub silent : (v : ℕ) → (s.local v).tec.0 ≡ 0 → pos 0 ≡ local v
  pub printed : (v : ℕ) → v < s.nodes → F (node_fields (s.name v) (s.local v)) ≡ local v
  pub last : F (remainder_fields (s.side Generation).remainder (s.side Demand).remainder) ≡ left

letter_from : (side : Side) → From 45 (letter side)
unfolding letter
letter_from Generation = more 71 (omega arith) none
letter_from Demand = more 68 (omega arith) none

-- numbers hold no space and no line feed, nor does `-`
numbers : (zs : List ℤ) → Fields (decimals zs)
unfolding decimals
numbers [] = end
numbers (z ∷ zs) = field (decimal_from z) (numbers zs)

numbers_or_none : (b : Bool) (zs : List ℤ) → Fields (cond b (text "-" ∷ []) (decimals zs))
numbers_or_none true zs = field (more 45 (omega arith) none) end
numbers_or_none false zs = numbers zs

-- one of two texts, by a test
adds_either : {F : Line → ℤ} {s t : List ℕ} {v : ℤ} {P : Type 0} (b : Bool) → Says b P → (P → Adds F s v) → ((P → ⊥) → Adds F t v) → Adds F (cond b s t) v
adds_either true e f g = f (e.0 refl)
adds_either false e f g = g (λ p. true≢false (sym (e.1 p)))

worth : {F : Line → ℤ} {t : List ℕ} {v w : ℤ} → Adds F t v → v ≡ w → Adds F t w
worth a e = rw e at a

module _ (s : Shown) (named : (v : ℕ) → v < s.nodes → From 45 (s.name v))
    (F : Line → ℤ) (zone : Side → ℕ → ℤ) (local : ℕ → ℤ) (left : ℤ) (w : Worth s F zone local left) where
  add_zone : (side : Side) (k : ℕ) → Adds F (line (zone_row side (s.side side) k)) (zone side k)
  unfolding zone_fields
  add_zone side k =
      let z = (s.side side).zone k in
      let rest = numbers_or_none (eqb z.weight.0 0) (zone_numbers (s.side side).form (s.side side).residual z) in
      worth (adds_line F (letter_from side) (field (from_lower (omega arith) (natural_from (suc k))) rest)) (w.zones side k)

  add_zones : (side : Side) → Adds F (zone_lines side (s.side side)) (Σ (s.side side).zones (zone side))
  unfolding zone_lines
  add_zones side = adds_joined F (s.side side).zones _ _ (λ k h. add_zone side k)

  add_node : (v : ℕ) → v < s.nodes → Adds F (node_line (s.name v) (s.local v)) (local v)
  unfolding node_line node_fields
  add_node v h =
      adds_either (eqb (s.local v).tec.0 0) says_eq (λ e. worth (adds_none F) (w.silent v e))
      (λ e. worth (adds_line F (more 76 (omega arith) none) (field (named v h) (numbers _))) (w.printed v h))

  add_nodes : Adds F (node_lines s.nodes s.name s.local) (Σ s.nodes local)
  unfolding node_lines
  add_nodes = adds_joined F s.nodes _ local add_node

  pub add_sheet : Adds F (sheet_text s)
      (pos 0 +ℤ (Σ (s.side Generation).zones (zone Generation) +ℤ (Σ (s.side Demand).zones (zone Demand) +ℤ (Σ s.nodes local +ℤ left))))
  unfolding sheet_text constant_fields remainder_fields
  add_sheet =
      adds_append F (worth (adds_line F (more 67 (omega arith) none) (numbers _)) w.start)
      (adds_append F (add_zones Generation)
      (adds_append F (add_zones Demand)
      (adds_append F add_nodes
      (worth (adds_line F (more 82 (omega arith) none) (numbers _)) w.last))))

-- ---- numbers among the fields, read back
read_numbers : (zs : List ℤ) (i : ℕ) → read_whole (get_or (decimals zs) i []) ≡ get_or zs i (pos 0)
unfolding decimals read_whole
read_numbers [] i = refl
read_numbers (z ∷ zs) zero = read_decimal z
read_numbers (z ∷ zs) (suc i) = read_numbers zs i

-- field k of a zone's line, from 2 on
abbrev pub zone_field : Form → MicroPerKw → ZoneFigures → (k : ℕ) → ℤ
zone_field e r z k = get_or (pos 0 ∷ pos 0 ∷ zone_numbers e r z) k (pos 0)

-- as it reads: 0 where the zone has no kilowatts
unfoldable pub zone_read : Form → MicroPerKw → ZoneFigures → (k : ℕ) → ℤ
zone_read e r z k = cond (eqb z.weight.0 0) (pos 0) (zone_field e r z k)

pub zone_read_lem : (e : Form) (side : Side) (zone : ℕ) (r : MicroPerKw) (z : ZoneFigures) (k : ℕ) → 2 ≤ k
    → read_whole (get_or (zone_fields e side zone r z) k []) ≡ zone_read e r z k
unfolding zone_fields zone_read read_whole read_natural
zone_read_lem e side zone r z zero h = absurd (omega arith)
zone_read_lem e side zone r z (suc zero) h = absurd (omega arith)
zone_read_lem e side zone r z (suc (suc i)) h = go (eqb z.weight.0 0) i
  where
    go : (b : Bool) (i : ℕ) → read_whole (get_or (cond b (text "-" ∷ []) (decimals (zone_numbers e r z))) i []) ≡ cond b (pos 0) (get_or (zone_numbers e r z) i (pos 0))
    go true zero = refl
    go true (suc i) = refl
    go false i = read_numbers (zone_numbers e r z) i

-- ---- which field is which number
pub metres_from : (f : Form) (b : Background) → 2 ≤ metres_field f b
unfolding metres_field
metres_from OneBackground b = omega arith
metres_from TwoBackgrounds Peak = omega arith
metres_from TwoBackgrounds YearRound = omega arith
metres_from Sharing Peak = omega arith
metres_from Sharing YearRound = omega arith

pub residual_from : (f : Form) → 2 ≤ residual_field f
unfolding residual_field
residual_from OneBackground = omega arith
residual_from TwoBackgrounds = omega arith
residual_from Sharing = omega arith

module _ (r : MicroPerKw) (z : ZoneFigures) where
  pub metres_field_lem : (f : Form) (b : Background) → Of b (form_edition f) → zone_field f r z (metres_field f b) ≡ (figures_in b z).metres.0
  unfolding zone_numbers metres_field
  metres_field_lem OneBackground YearRound h = refl
  metres_field_lem OneBackground Peak h = absurd h
  metres_field_lem TwoBackgrounds YearRound h = refl
  metres_field_lem TwoBackgrounds Peak h = refl
  metres_field_lem Sharing YearRound h = refl
  metres_field_lem Sharing Peak h = refl

  pub tariff_field_lem : (f : Form) (b : Background) → Of b (form_edition f) → zone_field f r z (tariff_field f b) ≡ (figures_in b z).tariff.0
  unfolding zone_numbers metres_field
  tariff_field_lem OneBackground YearRound h = refl
  tariff_field_lem OneBackground Peak h = absurd h
  tariff_field_lem TwoBackgrounds YearRound h = refl
  tariff_field_lem TwoBackgrounds Peak h = refl
  tariff_field_lem Sharing YearRound h = refl
  tariff_field_lem Sharing Peak h = refl

  pub residual_field_lem : (f : Form) → zone_field f r z (residual_field f) ≡ r
  unfolding zone_numbers residual_field
  residual_field_lem OneBackground = refl
  residual_field_lem TwoBackgrounds = refl
  residual_field_lem Sharing = refl

  pub total_field_lem : (f : Form) → zone_field f r z (total_field f) ≡ z.total.0
  unfolding zone_numbers residual_field
  total_field_lem OneBackground = refl
  total_field_lem TwoBackgrounds = refl
  total_field_lem Sharing = refl

-- ---- 02, request 6: the shared metres and tariff that a line has
-- of fields, as a reader of a line has them
abbrev pub shared_metres_in : Form → Line → ℤ
shared_metres_in OneBackground fs = pos 0
shared_metres_in TwoBackgrounds fs = pos 0
shared_metres_in Sharing fs = read_whole (get_or fs 8 [])

abbrev pub shared_tariff_in : Form → Line → ℤ
shared_tariff_in OneBackground fs = pos 0
shared_tariff_in TwoBackgrounds fs = pos 0
shared_tariff_in Sharing fs = read_whole (get_or fs 9 [])

pub metres_in : (f : Form) (l : List ℕ) → printed_shared_metres f l ≡ shared_metres_in f (pieces 32 l)
unfolding printed_shared_metres read.field
metres_in OneBackground l = refl
metres_in TwoBackgrounds l = refl
metres_in Sharing l = refl

pub tariff_in : (f : Form) (l : List ℕ) → printed_shared_tariff f l ≡ shared_tariff_in f (pieces 32 l)
unfolding printed_shared_tariff read.field
tariff_in OneBackground l = refl
tariff_in TwoBackgrounds l = refl
tariff_in Sharing l = refl

-- of a zone whose shared figures are 0 where its line has none
abbrev pub shared_or : Form → ℤ → ℤ
shared_or OneBackground z = pos 0
shared_or TwoBackgrounds z = pos 0
shared_or Sharing z = z

or_nothing : (b : Bool) → cond b (pos 0) (pos 0) ≡ pos 0
or_nothing true = refl
or_nothing false = refl

module _ (side : Side) (zone : ℕ) (r : MicroPerKw) (z : ZoneFigures) where
  pub shared_metres_read : (f : Form) → shared_metres_in f (zone_fields f side zone r z) ≡ cond (eqb z.weight.0 0) (pos 0) (shared_or f z.shared.metres.0)
  unfolding zone_read zone_numbers
  shared_metres_read OneBackground = sym (or_nothing (eqb z.weight.0 0))
  shared_metres_read TwoBackgrounds = sym (or_nothing (eqb z.weight.0 0))
  shared_metres_read Sharing = zone_read_lem Sharing side zone r z 8 (omega arith)

  pub shared_tariff_read : (f : Form) → shared_tariff_in f (zone_fields f side zone r z) ≡ cond (eqb z.weight.0 0) (pos 0) (shared_or f z.shared.tariff.0)
  unfolding zone_read zone_numbers
  shared_tariff_read OneBackground = sym (or_nothing (eqb z.weight.0 0))
  shared_tariff_read TwoBackgrounds = sym (or_nothing (eqb z.weight.0 0))
  shared_tariff_read Sharing = zone_read_lem Sharing side zone r z 9 (omega arith)
