use mathlib.Core.Path.{sym}
use native.Mathlib.Omega.{arith}
use Rattle.zone_kw.proofs.ZoneLaws.{sums_none, sums_more, sums_past, sums_fit, sums_done}
use Rattle.zone_kw.proofs.by_zone.Goals as goal
use Rattle.zone_kw.proofs.by_zone.Goals.{in-Some, in_default}

pub loop-v-init : goal.loop-v-init
loop-v-init c = sums_none c.args.zone c.args.kw

pub overflow_add-sums : goal.overflow_add-sums
overflow_add-sums c =
    omega (arith, sums_fit c.args.zone c.args.kw c.loop-v.v c.in-Some.slot c.loop-v.invariant c.kept.ensures (omega (arith, c.min-v-end.ensures)) c.in-Some.ensures.1)

pub loop-v-preserved : goal.loop-v-preserved
loop-v-preserved c =
    let a = c.args in
    elim c.match-slot_of.branch [
      | in-Some w ↦ rw w.sums-is (sums_more a.zone a.kw c.loop-v.v _ c.loop-v.invariant w.in-Some.ensures.0 w.kept.ensures w.in-Some.ensures.1)
      | in_default w ↦ rw w.sums-is (sums_past a.zone a.kw c.loop-v.v 32 c.loop-v.invariant (sym w.in_default.ensures) (omega arith))
    ]

pub returns : goal.returns
returns c = sums_done _ _ c.args.nodes c.loop-v.v c.loop-v.invariant c.min-v-end.ensures c.loop-v.auto.v-end c.loop-v-test.false
