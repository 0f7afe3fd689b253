use mathlib.Core.Path.{◌≡◌}
use mathlib.Core.Bool.{◌&&◌}
use lib.ListN.{drop}
use Rattle.names.specs.Padded.{padded}
use Rattle.names.proofs.NameLaws.{left}
use Rattle.names.proofs.padding.padded.Given as goal

abbrev pub invariant-loop-b : goal.invariant-loop-b
invariant-loop-b l = padded l.bytes ≡ (l.good && left l.named (drop l.b-index l.bytes))
