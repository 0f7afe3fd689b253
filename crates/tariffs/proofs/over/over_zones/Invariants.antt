-- The invariant: what the zones passed come to.
use mathlib.Core.Path.{◌≡◌}
use Rattle.tariffs.specs.Sides.{over_from}
use Rattle.tariffs.proofs.over.over_zones.Given as goal

abbrev pub invariant-loop-k : goal.invariant-loop-k
invariant-loop-k l = l.over ≡ over_from l.sums l.k
