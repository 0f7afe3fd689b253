-- 01, The case file: the rows of each table, in the types of the code.
use Rattle.std.specs.Prelude.{length}
use Rattle.meaning.specs.Study.{Study}
use Rattle.layout.specs.declared.RowCounts.{RowCounts}

-- rows of each table
unfoldable pub counts_of : Study → RowCounts
counts_of S = record { nodes = length S.nodes; circuits = length S.circuits; stations = length S.stations }
