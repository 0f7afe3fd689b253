use mathlib.Core.Path.{◌≡◌, ◌∙◌}
use Prim.Native.Nat.{ℕ, ◌-◌, ◌≤◌}
use native.Mathlib.Omega.{arith}
use lib.IntN.{pos, ◌*ℤ◌}
use mir.Syntax.{w64}
use mir.Val.{to_z}
use Rattle.integers.proofs.Machine.{Back, fit_back, back, of_nat}
use Rattle.integers.proofs.Laws.{sfits_abs}
use Rattle.tariffs.specs.declared.over.Over.{Over}
use Rattle.tariffs.specs.Sides.{Ready}
use Rattle.tariffs.proofs.Laws.{first_fits, second_fits, mixed_fits}
use Rattle.tariffs.proofs.over.c_of.Goals as goal

module _ (p : ℕ) (g d : Over) (f : (p ≤ 1000) × Ready g × Ready d) where
  bp : to_z w64 p ≡ pos p
  bp = of_nat p (omega arith)

  bq : to_z w64 (1000 - p) ≡ pos (1000 - p)
  bq = of_nat (1000 - p) (omega arith)

  bg : Back g.metres
  bg = fit_back (sfits_abs g.metres (omega (arith, f.1.metres, f.1.total)))

  bd : Back d.metres
  bd = fit_back (sfits_abs d.metres (omega (arith, f.2.metres, f.2.total)))

  first : Back (pos (1000 - p) *ℤ d.metres)
  first = fit_back (first_fits p g d f.0 f.1 f.2)

  second : Back (pos p *ℤ g.metres)
  second = fit_back (second_fits p g d f.0 f.1 f.2)

pub overflow_sub-above : goal.overflow_sub-above
overflow_sub-above c =
    let a = c.args in
    let f = c.requires in
    let p = a.p in
    let g = a.generation in
    let d = a.demand in
    simp (bp p g d f, bq p g d f, bg p g d f, bd p g d f, first p g d f, second p g d f) (mixed_fits p g d f.0 f.1 f.2)

pub returns : goal.returns
returns c =
    let a = c.args in
    let f = c.requires in
    let p = a.p in
    let g = a.generation in
    let d = a.demand in
    back _ c.nearest.type_inv ∙ simp (bp p g d f, bq p g d f, bg p g d f, bd p g d f, first p g d f, second p g d f, fit_back (mixed_fits p g d f.0 f.1 f.2)) at c.nearest.ensures
