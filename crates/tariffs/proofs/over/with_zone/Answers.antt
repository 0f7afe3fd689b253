use mathlib.Core.Path.{◌≡◌}
use Prim.Native.Nat.{ℕ, ◌≤◌}
use native.Mathlib.Omega.{arith}
use lib.IntN.{ℤ, pos, nat_abs, ◌+ℤ◌, ◌*ℤ◌}
use mir.Syntax.{w64}
use mir.Val.{SFits, to_z}
use Rattle.integers.proofs.Laws.{abs-add, abs-mul-le, sfits_abs}
use Rattle.integers.proofs.Machine.{Back, fit_back, of_nat}
use Rattle.zones.specs.declared.ZoneSums.{ZoneSums}
use Rattle.zones.specs.Sums.{SumsFit}
use Rattle.tariffs.specs.declared.over.Over.{Over}
use Rattle.tariffs.specs.Sides.{OverFits, metres_from, with_zone}
use Rattle.tariffs.proofs.Laws.{zonal_near}
use Rattle.tariffs.proofs.over.with_zone.Goals as goal

-- what is added up of a zone, and how far it goes
module _ (over : Over) (zone : ZoneSums) (fit : OverFits over × SumsFit zone) where
  abbrev old : ℤ
  old = over.metres

  abbrev m : ℤ
  m = metres_from zone

  abbrev kw : ℕ
  kw = zone.paying.0

  bo : Back old
  bo = fit_back (sfits_abs old (omega (arith, fit.0.metres, fit.0.total)))

  bm : Back m
  bm = fit_back (sfits_abs m (omega (arith, zonal_near zone fit.1)))

  bk : to_z w64 kw ≡ pos kw
  bk = of_nat kw (omega (arith, fit.1.paying))

  one : nat_abs (m *ℤ pos kw) ≤ 256000000000000000
  one = abs-mul-le m (pos kw) (zonal_near zone fit.1) fit.1.paying

  fits : SFits w64 (m *ℤ pos kw)
  fits = sfits_abs (m *ℤ pos kw) (omega (arith, one))

  bp : Back (m *ℤ pos kw)
  bp = fit_back fits

  all_fit : SFits w64 (old +ℤ m *ℤ pos kw)
  all_fit = sfits_abs (old +ℤ m *ℤ pos kw) (omega (arith, abs-add old (m *ℤ pos kw), one, fit.0.metres, fit.0.total))

  bw : Back (old +ℤ m *ℤ pos kw)
  bw = fit_back all_fit

pub overflow_mul-result : goal.overflow_mul-result
overflow_mul-result c =
    let o = c.args.over in
    let z = c.args.zone in
    let f = c.requires in
    simp (c.metres_of.ensures, bm o z f, bk o z f) (fits o z f)

pub overflow_add-result : goal.overflow_add-result
overflow_add-result c =
    let o = c.args.over in
    let z = c.args.zone in
    let f = c.requires in
    simp (c.metres_of.ensures, bo o z f, bm o z f, bk o z f, bp o z f) (all_fit o z f)

pub returns : goal.returns
unfolding with_zone
returns c =
    let o = c.args.over in
    let z = c.args.zone in
    let f = c.requires in
    simp (c.metres_of.ensures, bo o z f, bm o z f, bk o z f, bp o z f, bw o z f)
