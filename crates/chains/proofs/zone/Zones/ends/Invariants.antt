use mathlib.Core.Path.{◌≡◌}
use Rattle.meaning.specs.Sharing.{after}
use Rattle.chains.specs.Columns.{next_in}
use Rattle.chains.proofs.zone.Zones.ends.Given as goal

abbrev pub invariant-loop : goal.invariant-loop
invariant-loop l = l.here ≡ after (next_in l.self.next.now) l.counter l.z
