-- What the judge of the stations' table is told of the file.
use Rattle.std.specs.Prelude.{◌≡◌, Bool, not, List, ℕ, ◌+◌, length}
use Rattle.meaning.specs.declared.Section.{Section}
use Rattle.meaning.specs.File.{name_at, row_at, station_at}
use Rattle.meaning.specs.Tables.{sound_station_row}
use Rattle.meaning.specs.Grid.{place}
use Rattle.layout.specs.Readable.{readable, section_in}
use Rattle.station_table.specs.Columns.{stations_of}

-- the node of a station's row at a place, as its name has it
pub record ToldNode (file : List ℕ) (at n v : ℕ) : Type 0 where
  pub nodes : n ≡ length (readable file).nodes
  pub node : v ≡ place (readable file).nodes (name_at file (at + 12))

-- how many nodes there are, where the stations' rows lie, and the number of each one's node
pub record ToldStations (file : List ℕ) (n : ℕ) (rows : Section) (node : List ℕ) : Type 0 where
  pub nodes : n ≡ length (readable file).nodes
  pub section : rows ≡ section_in file 3
  pub column : node ≡ (stations_of (readable file)).node

-- the station's row at its place is not sound by itself
abbrev pub unsound_station : List ℕ → (rows : Section) → (i : ℕ) → Bool
unsound_station file rows i = not (sound_station_row (readable file).nodes (station_at file (row_at rows i)))
