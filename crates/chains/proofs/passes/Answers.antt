use mathlib.Core.Path.{sym}
use Prim.Native.Nat.{◌+◌}
use native.Mathlib.Omega.{arith}
use Rattle.meaning.proofs.Chains.{after_zero}
use Rattle.meaning.proofs.Rows.{passed_zero, passed_more}
use Rattle.chains.specs.Columns.{next_in}
use Rattle.chains.proofs.Laws.{after_on, passes_here, here_not, passes_ended, passes_none}
use Rattle.chains.proofs.passes.Goals as goal

pub loop-init : goal.loop-init
loop-init c = (sym (after_zero _ _), passed_zero _)

pub returns-then-here-b : goal.returns-then-here-b
returns-then-here-b c =
    let a = c.args in
    passes_here a.next.now a.zones a.z a.b c.loop.counter c.loop.invariant.0 (omega (arith, c.min-end.ensures)) c.if-here-b.true

pub returns-then-here-eq0 : goal.returns-then-here-eq0
returns-then-here-eq0 c =
    let a = c.args in
    passes_ended a.next.now a.zones a.z a.b c.loop.counter c.loop.invariant.0 c.loop.invariant.1 c.if-here-b.false c.if-here-eq0.true

pub loop-preserved : goal.loop-preserved
loop-preserved c =
    let a = c.args in (
      after_on (next_in a.next.now) c.loop.counter a.z c.loop.invariant.0 c.step-here.ensures,
      passed_more c.loop.invariant.1 (here_not a.next.now a.zones a.z a.b c.loop.counter c.loop.invariant.0 c.if-here-b.false),
    )

pub returns-else-here-eq0 : goal.returns-else-here-eq0
returns-else-here-eq0 c =
    let a = c.args in
    passes_none a.next.now a.zones a.z a.b (c.loop.counter + 1) (omega (arith, c.min-end.ensures, c.loop-test))
    (passed_more c.loop.invariant.1 (here_not a.next.now a.zones a.z a.b c.loop.counter c.loop.invariant.0 c.if-here-b.false))
