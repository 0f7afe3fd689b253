use mathlib.Core.Path.{◌≡◌}
use Rattle.integers.specs.Numbers.{sum as sum_of}
use Rattle.boundaries.proofs.Laws.{adds}
use Rattle.boundaries.proofs.part.Zones.behind.Given as goal

abbrev pub invariant-loop-i : goal.invariant-loop-i
invariant-loop-i l = l.sum ≡ sum_of l.i (adds l.self.count l.self.next.now l.kw l.b)
