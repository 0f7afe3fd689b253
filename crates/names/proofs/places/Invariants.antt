use mathlib.Core.Path.{◌≡◌}
use Prim.Native.Nat.{◌+◌}
use Rattle.meaning.specs.Columns.{column}
use Rattle.meaning.specs.File.{row_at}
use Rattle.names.specs.Search.{first_named}
use Rattle.names.proofs.places.Given as goal

abbrev pub invariant-loop-i : goal.invariant-loop-i
invariant-loop-i l = l.all ≡ column l.nodes.count 512 l.i (λ j. first_named l.file l.nodes (row_at l.rows j + l.field))
