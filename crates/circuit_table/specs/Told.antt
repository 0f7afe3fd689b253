-- What the judge of the circuits' table is told of the file.
use Rattle.std.specs.Prelude.{◌≡◌, Bool, not, List, ℕ, ◌+◌, length}
use Rattle.meaning.specs.declared.Section.{Section}
use Rattle.meaning.specs.File.{name_at, row_at, circuit_at}
use Rattle.meaning.specs.Tables.{sound_circuit_row}
use Rattle.meaning.specs.Grid.{place}
use Rattle.layout.specs.Readable.{readable, section_in}
use Rattle.circuit_table.specs.declared.CircuitColumns.{CircuitColumns}
use Rattle.circuit_table.specs.Columns.{circuits_of}

-- the ends of a circuit's row at a place, as its names have them
pub record ToldEnds (file : List ℕ) (at n a b : ℕ) : Type 0 where
  pub nodes : n ≡ length (readable file).nodes
  pub first : a ≡ place (readable file).nodes (name_at file at)
  pub second : b ≡ place (readable file).nodes (name_at file (at + 12))

-- how many nodes there are, where the circuits' rows lie, and their columns
pub record ToldCircuits (file : List ℕ) (n : ℕ) (rows : Section) (c : CircuitColumns) : Type 0 where
  pub nodes : n ≡ length (readable file).nodes
  pub section : rows ≡ section_in file 2
  pub columns : c ≡ circuits_of (readable file)

-- the circuit's row at its place is not sound
abbrev pub unsound_circuit : List ℕ → (rows : Section) → (i : ℕ) → Bool
unsound_circuit file rows i = not (sound_circuit_row (readable file).nodes (circuit_at file rows.size (row_at rows i)))
