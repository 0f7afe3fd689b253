use mathlib.Core.Path.{◌≡◌}
use Rattle.zone_kw.proofs.ZoneLaws.{sums}
use Rattle.zone_kw.proofs.by_zone.Given as goal

abbrev pub invariant-loop-v : goal.invariant-loop-v
invariant-loop-v l = l.sums ≡ sums l.zone l.kw l.v
