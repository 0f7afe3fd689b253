use mathlib.Core.Path.{◌≡◌}
use Rattle.meaning.specs.Sharing.{after}
use Rattle.chains.specs.Columns.{next_in}
use Rattle.chains.proofs.Laws.{Before}
use Rattle.chains.proofs.passes.Given as goal

abbrev pub invariant-loop : goal.invariant-loop
invariant-loop l = (l.here ≡ after (next_in l.next) l.counter l.z) × Before l.next l.z l.b l.counter
