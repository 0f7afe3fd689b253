use mathlib.Core.Path.{refl}
use native.Mathlib.Omega.{arith}
use Rattle.meaning.specs.Rows.{◌between◌and◌}
use Rattle.zone_kw.specs.ByZone.{slot_of}
use Rattle.zone_kw.proofs.ZoneLaws.{zone_known}
use Rattle.zone_kw.proofs.range.slot_of.Goals as goal

pub overflow_sub-result : goal.overflow_sub-result
overflow_sub-result c = (zone_known _ c.if-zone.true).0

pub returns-then-zone : goal.returns-then-zone
unfolding slot_of ◌between◌and◌
returns-then-zone c = (rw c.if-zone.true refl, omega (arith, zone_known c.args.zone c.if-zone.true))

pub returns : goal.returns
unfolding slot_of ◌between◌and◌
returns c = rw c.if-zone.false refl
