-- What the judge of the nodes' table looks for.
use Rattle.std.specs.Prelude.{Bool, not, List, ℕ}
use Rattle.meaning.specs.declared.Section.{Section}
use Rattle.meaning.specs.declared.Settings.{Settings}
use Rattle.meaning.specs.File.{row_at, node_at}
use Rattle.meaning.specs.Tables.{sound_node_row}

-- the node's row at its place is not sound by itself
abbrev pub unsound_node : Settings → List ℕ → (rows : Section) → ℕ → Bool
unsound_node settings file rows i = not (sound_node_row settings (node_at file (row_at rows i)))
