-- 01, step 6: the nodal distances of two cases side by side, of each node and on the bytes of two sheets. Demand 3 and request 12 of 02 promise that they are close.
use Rattle.std.specs.Prelude.{◌≡◌, ◌≢◌, true, cond, List, ℕ, ◌≤◌, ◌<◌, eqb, nat_abs, ◌+ℤ◌, ◌-ℤ◌, length}
use Rattle.meaning.specs.declared.Form.{Form}
use Rattle.meaning.specs.declared.Background.{Background}
use Rattle.meaning.specs.declared.Background.TheVariants.{YearRound, Peak}
use Rattle.meaning.specs.declared.Side.{Side}
use Rattle.meaning.specs.declared.System.{System}
use Rattle.meaning.specs.Editions.{Of, HasSystem, OfDistances}
use Rattle.meaning.specs.Study.{Kw, Metres, Runs}
use Rattle.meaning.specs.Grid.{Grid}
use Rattle.meaning.specs.Figures.{metres_by, zone_of, weight, form_of}
use Rattle.meaning.specs.Text.{text}
use Rattle.meaning.specs.Sheet.{letter}
use Rattle.meaning.specs.Read.{field, read_natural, read_whole, has_letter, line_at, metres_field, printed_shared_metres}

-- how far two distances are apart
abbrev pub apart : (a b : Metres) → ℕ
apart a b = nat_abs (a -ℤ b)

-- step 7: the kilowatts by which node v weighs in a zone
abbrev pub weight_in : Grid → Side → (zone v : ℕ) → Kw
weight_in G side zone v = cond (eqb (zone_of G side v) zone) (weight G side v) 0

-- the metres that the line of a node shows, and those of a background on the line of a zone
abbrev pub shown_metres : (line : List ℕ) → Metres
shown_metres line = read_whole (field 2 line)

-- and, year round, its shared metres (02, request 6: with these they "add up to the zone's metres")
abbrev pub shown_in : Form → Background → (line : List ℕ) → Metres
shown_in form Peak line = read_whole (field (metres_field form Peak) line)
shown_in form YearRound line = read_whole (field (metres_field form YearRound) line) +ℤ printed_shared_metres form line

-- two `L` lines of one name
pub record OfOneName (line line' : List ℕ) : Type 0 where
  pub local : has_letter (text "L") line ≡ true
  pub local' : has_letter (text "L") line' ≡ true
  pub name : field 1 line ≡ field 1 line'

-- the line of a zone all of whose kilowatts are at node v: it shows that node's distance
pub record OfNode (G : Grid) (side : Side) (v : ℕ) (line : List ℕ) : Type 0 where
  pub zonal : has_letter (letter side) line ≡ true
  pub some : 1 ≤ weight_in G side (read_natural 0 (field 1 line)) v
  pub others : (u : ℕ) → u < length G.nodes → u ≢ v → weight_in G side (read_natural 0 (field 1 line)) u ≡ 0

-- every nodal distance of two cases with the same nodes, in each system of the first's edition, differs by at most m metres, and so do those that their sheets show, wherever the lines stand;
-- each with its share file
pub record DistancesWithin (m : ℕ) (G G' : Grid) (runs runs' : Runs) (share share' sheet sheet' : List ℕ) : Type 0 where
  pub nodal : (s : System) → OfDistances s → HasSystem G.settings.edition s → (v : ℕ) → v < length G.nodes → apart (metres_by s runs v) (metres_by s runs' v) ≤ m
  pub local_lines : (k k' : ℕ) → OfOneName (line_at k sheet) (line_at k' sheet') → apart (shown_metres (line_at k sheet)) (shown_metres (line_at k' sheet')) ≤ m
  pub zone_lines : (b : Background) → Of b G.settings.edition → (side : Side) (v k k' : ℕ) → v < length G.nodes
      → OfNode G side v (line_at k sheet) → OfNode G' side v (line_at k' sheet')
      → apart (shown_in (form_of G share side) b (line_at k sheet)) (shown_in (form_of G' share' side) b (line_at k' sheet')) ≤ m
