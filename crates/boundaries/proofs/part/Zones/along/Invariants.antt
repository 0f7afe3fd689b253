use Rattle.chains.specs.Columns.{next_in}
use Rattle.boundaries.specs.Parts.{part_in}
use Rattle.boundaries.proofs.Laws.{Going}
use Rattle.boundaries.proofs.part.Zones.along.Given as goal

abbrev pub invariant-loop : goal.invariant-loop
invariant-loop l = Going l.self.count (next_in l.self.next.now) (part_in l.parts) l.z l.counter l.here l.sum
