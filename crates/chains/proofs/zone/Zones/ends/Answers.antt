use mathlib.Core.Path.{◌≡◌, refl, sym}
use Prim.Native.Nat.{suc, ◌+◌}
use native.Mathlib.Omega.{arith}
use Rattle.meaning.proofs.Chains.{after_zero}
use Rattle.chains.specs.Columns.{next_in}
use Rattle.chains.proofs.Laws.{after_on}
use Rattle.chains.proofs.zone.Zones.ends.Goals as goal
use Rattle.chains.proofs.zone.Zones.ends.Goals.{else-loop-test, then-loop-test+else-counter-end}

pub loop-init : goal.loop-init
loop-init c = sym (after_zero _ _)

pub loop-preserved : goal.loop-preserved
loop-preserved c = after_on (next_in c.args.self.now.next.now) c.loop.counter c.args.z c.loop.invariant c.step-here.ensures

pub returns : goal.returns
returns c =
    let f = next_in c.args.self.now.next.now in
    elim c.loop-test.branch [
      | else-loop-test w ↦ absurd (omega arith)
      | then-loop-test+else-counter-end w ↦
          let e : suc c.args.self.now.count ≡ c.loop.counter + 1 = omega arith in
          rw (w.here-is, e, after_on f c.loop.counter c.args.z c.loop.invariant w.step-here.ensures) refl
    ]
