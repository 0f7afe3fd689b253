-- `text::sections::put_nodes` meets its contract: the rows before v are written.
use mathlib.Core.List.{List}
use Prim.Native.Nat.{ℕ, ◌*◌}
use Rattle.meaning.specs.Rows.{joined}
use Rattle.meaning.specs.declared.Section.{Section}
use Rattle.meaning.specs.declared.LocalFigures.{LocalFigures}
use Rattle.meaning.specs.Sheet.{node_line}
use Rattle.lines.specs.Making.{Put}
use Rattle.text.specs.SheetText.{name_of, local_in}
use Rattle.text.proofs.sections.put_nodes.Given as goal

-- the text of row v
abbrev pub row : List LocalFigures → (file : List ℕ) → Section → ℕ → List ℕ
row local file rows v = node_line (name_of file rows v) (local_in local v)

abbrev pub invariant-loop-v : goal.invariant-loop-v
invariant-loop-v l = Put (57 * l.v) l.initial.out l.from (joined l.v (row l.local l.names.file.now l.names.rows)) l.out l.at
