use mathlib.Core.Path.{◌≡◌, ◌∙◌}
use mathlib.Core.Bool.{Bool, true, ◌&&◌}
use native.Mathlib.Omega.{arith}
use lib.Dec.{leb}
use lib.IntN.{pos, ◌-ℤ◌, ◌*ℤ◌}
use mir.Syntax.{w64}
use mir.Val.{to_z}
use Rattle.integers.proofs.Machine.{Back, fit_back, of_nat}
use Rattle.integers.proofs.Laws.{sfits_abs}
use Rattle.flows.specs.Flows.{in_ranges}
use Rattle.flows.proofs.Misses.{Ranged, says_ranged, tested_are, size_in, size_out, drop_fits, carried_fits, rest_fits, miss_fits}
use Rattle.flows.proofs.circuit.miss_size.Goals as goal
use Rattle.flows.proofs.circuit.miss_size.Goals.{After-within-4, Start, Then-within-x}

-- what was tested
module _ (c : After-within-4) where
  abbrev s : Start
  s = c.before.before.before.before

  bp : Back s.args.p
  bp = fit_back s.ranges.p

  bq : Back s.args.q
  bq = fit_back s.ranges.q

  bf : Back s.args.flow
  bf = fit_back s.ranges.flow

  bo : Back s.args.offset
  bo = fit_back s.ranges.offset

  abbrev tests : Bool
  tests = in_ranges s.args.p s.args.q s.args.x s.args.flow s.args.offset

  tested : tests ≡ (c.within.result && c.within-2.result && leb s.args.x 10000 && c.within-3.result && c.within-4.result)
  tested =
      tested_are _ _ _ _ _ _ _ _ _ (simp bp at c.within.ensures) (simp bq at c.within-2.ensures) (simp bf at c.within-3.ensures) (simp bo at c.within-4.ensures)

-- in range
module _ (c : Then-within-x) where
  abbrev w : After-within-4
  w = c.before

  passed : tests w ≡ true
  passed = tested w ∙ c.if-within-x.true

  ranged : Ranged (s w).args.p (s w).args.q (s w).args.x (s w).args.flow (s w).args.offset
  ranged = (says_ranged _ _ _ _ _).0 passed

  bx : to_z w64 (s w).args.x ≡ pos (s w).args.x
  bx = of_nat _ (omega (arith, ranged.times))

  bd : Back ((s w).args.p -ℤ (s w).args.q)
  bd = fit_back (drop_fits _ _ _ _ _ ranged)

  bc : Back (pos (s w).args.x *ℤ (s w).args.flow)
  bc = fit_back (carried_fits _ _ _ _ _ ranged)

  br : Back ((s w).args.p -ℤ (s w).args.q -ℤ pos (s w).args.x *ℤ (s w).args.flow)
  br = fit_back (rest_fits _ _ _ _ _ ranged)

  bm : Back ((s w).args.p -ℤ (s w).args.q -ℤ pos (s w).args.x *ℤ (s w).args.flow -ℤ (s w).args.offset)
  bm = fit_back (miss_fits _ _ _ _ _ ranged)

pub overflow_sub-p : goal.overflow_sub-p
overflow_sub-p c = simp (bp (w c), bq (w c)) (drop_fits _ _ _ _ _ (ranged c))

pub overflow_cast-x : goal.overflow_cast-x
overflow_cast-x c = sfits_abs _ (omega (arith, (ranged c).times))

pub overflow_mul-x : goal.overflow_mul-x
overflow_mul-x c = simp (bx c, bf (w c)) (carried_fits _ _ _ _ _ (ranged c))

pub overflow_sub-p-then-within-x : goal.overflow_sub-p-then-within-x
overflow_sub-p-then-within-x c = simp (bp (w c), bq (w c), bx c, bf (w c), bd c, bc c) (rest_fits _ _ _ _ _ (ranged c))

pub overflow_sub-p-then-within-x-2 : goal.overflow_sub-p-then-within-x-2
overflow_sub-p-then-within-x-2 c = simp (bp (w c), bq (w c), bx c, bf (w c), bd c, bc c, br c, bo (w c)) (miss_fits _ _ _ _ _ (ranged c))

pub returns-then-within-x : goal.returns-then-within-x
returns-then-within-x c =
    let t = c.before in
    simp (bp (w t), bq (w t), bx t, bf (w t), bd t, bc t, br t, bo (w t), bm t) at c.magnitude.ensures ∙ size_in _ _ _ _ _ (passed t)

pub returns : goal.returns
returns c = size_out _ _ _ _ _ (tested c.before ∙ c.if-within-x.false)
