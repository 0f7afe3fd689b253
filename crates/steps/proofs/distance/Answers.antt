-- `steps::distance` meets its contract.
use mathlib.Core.Path.{◌≡◌, ◌∙◌}
use Prim.Native.Nat.{◌≤◌}
use native.Mathlib.Omega.{arith}
use lib.IntN.{ℤ, nat_abs}
use mir.Facts.{to_z-of_z}
use mir.Syntax.{w64}
use mir.Val.{SFits, to_z, of_z}
use Rattle.integers.proofs.Core.{Z}
use Rattle.integers.proofs.Div.{nearest_within}
use Rattle.integers.proofs.Machine.{Back, fit_back}
use Rattle.meaning.specs.Charging.{metres}
use Rattle.steps.proofs.distance.Goals as goal

-- the metres of a potential are few, and are what was rounded
module _ (p : ℤ) (fits : SFits w64 p) where
  near : nat_abs (metres p) ≤ 10000000000
  unfolding metres
  near = nearest_within p 10000000000 1000000000 (simp Z (omega (arith, simp Z at fits)))

  read : Back (metres p)
  read = fit_back (simp Z (omega (arith, simp Z at near)))

  rounded : {r : ℤ} → r ≡ metres (to_z w64 (of_z w64 p)) → r ≡ metres p
  rounded told = simp (fit_back fits) at told

pub overflow_sub-result : goal.overflow_sub-result
overflow_sub-result c =
    let p = c.args.potential in
    let f = c.ranges.potential in
    simp (rounded p f c.metres-rounded.ensures, read p f, Z) (omega (arith, simp Z at (near p f)))

pub returns-in-Generation : goal.returns-in-Generation
returns-in-Generation c = rw c.in-Generation.is (rounded _ c.ranges.potential c.metres-rounded.ensures)

pub returns-in-Demand : goal.returns-in-Demand
returns-in-Demand c =
    let p = c.args.potential in
    let f = c.ranges.potential in
    to_z-of_z (overflow_sub-result c) ∙ rw c.in-Demand.is (simp (rounded p f c.metres-rounded.ensures, read p f, Z) (omega arith))
