use mathlib.Core.Path.{◌≡◌, sym, ◌∙◌, ap}
use native.Mathlib.Omega.{arith}
use lib.IntN.{ℤ, ◌+ℤ◌}
use mir.Syntax.{w64}
use mir.Val.{to_z, of_z}
use mir.Facts.{to_z-of_z}
use Rattle.integers.proofs.Machine.{back}
use Rattle.boundaries.specs.Parts.{part_in}
use Rattle.boundaries.proofs.Laws.{going_start, going_ended, going_over, going_on, going_fits}
use Rattle.boundaries.proofs.part.Zones.along.Goals as goal
use Rattle.boundaries.proofs.part.Zones.along.Goals.{After-of_zone-sum, At-loop}

pub loop-init : goal.loop-init
loop-init c = going_start _ _ _ _

pub returns-then-inner-eq0 : goal.returns-then-inner-eq0
returns-then-inner-eq0 c = going_ended _ _ _ c.loop.invariant (sym c.step-inner.ensures ∙ c.if-inner-eq0.true)

module _ (c : After-of_zone-sum) where
  abbrev l : At-loop
  l = c.before.before.before.before

  added : to_z w64 (of_z w64 c.of_zone-sum.result) ≡ part_in l.args.parts.now l.loop.here
  added = back _ c.of_zone-sum.type_inv ∙ c.of_zone-sum.ensures

pub overflow_add-sum : goal.overflow_add-sum
overflow_add-sum c = simp (added c) (going_fits _ _ _ (l c).loop.invariant (omega arith) ((l c).requires.each (l c).loop.here))

pub loop-preserved : goal.loop-preserved
loop-preserved c =
    going_on _ _ _ (l c).loop.invariant (omega arith) ((l c).requires.each (l c).loop.here) c.step-inner.ensures c.if-inner-eq0.false
    (to_z-of_z (overflow_add-sum c) ∙ ap (λ (x : ℤ). to_z w64 (l c).loop.sum-bits +ℤ x) (added c))

pub returns : goal.returns
returns c = going_over _ _ _ c.loop.invariant (omega arith)
