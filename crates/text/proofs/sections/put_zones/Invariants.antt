-- `text::sections::put_zones` meets its contract: the rows before k are written.
use mathlib.Core.List.{List}
use Prim.Native.Nat.{ℕ, ◌*◌}
use Rattle.meaning.specs.Rows.{joined}
use Rattle.meaning.specs.Text.{line}
use Rattle.meaning.specs.declared.Side.{Side}
use Rattle.meaning.specs.declared.SideFigures.{SideFigures}
use Rattle.meaning.specs.Sheet.{zone_row}
use Rattle.lines.specs.Making.{Put, width}
use Rattle.text.specs.SheetText.{side_in}
use Rattle.text.proofs.sections.put_zones.Given as goal

-- the text of row k
abbrev pub row : Side → SideFigures → ℕ → List ℕ
row side f k = line (zone_row side (side_in f) k)

abbrev pub invariant-loop-k : goal.invariant-loop-k
invariant-loop-k l = Put (width * l.k) l.initial.out l.from (joined l.k (row l.side l.f)) l.out l.at
