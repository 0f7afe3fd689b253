use native.Mathlib.Omega.{arith}
use lib.IntN.{◌+ℤ◌}
use mir.Syntax.{w64}
use mir.Val.{SFits}
use Rattle.integers.proofs.Laws.{abs-add, sfits_abs}
use Rattle.integers.proofs.Machine.{Back, fit_back}
use Rattle.zones.specs.declared.ZoneSums.{ZoneSums}
use Rattle.zones.specs.Sums.{plus, SumsFit, AddsFit}
use Rattle.zones.proofs.node.plus.Goals as goal

-- the two are read back, and their sum fits
module _ {z p : ZoneSums} (s : SumsFit z) (t : AddsFit p) where
  bo : Back z.weighed
  bo = fit_back (sfits_abs z.weighed (omega (arith, s.weighed, s.weight)))

  bm : Back p.weighed
  bm = fit_back (sfits_abs p.weighed (omega (arith, t.weighed, t.weight)))

  fits : SFits w64 (z.weighed +ℤ p.weighed)
  fits = sfits_abs (z.weighed +ℤ p.weighed) (omega (arith, abs-add z.weighed p.weighed, s.weighed, s.weight, t.weighed, t.weight))

pub overflow_add-weighed : goal.overflow_add-weighed
overflow_add-weighed c = let r = c.requires in simp (bo r.0 r.1, bm r.0 r.1) (fits r.0 r.1)

pub returns : goal.returns
unfolding plus
returns c = let r = c.requires in simp (bo r.0 r.1, bm r.0 r.1, fit_back (fits r.0 r.1))
