use mathlib.Core.Path.{◌≡◌, ◌∙◌}
use Prim.Native.Nat.{ℕ}
use native.Mathlib.Omega.{arith}
use lib.IntN.{ℤ, pos}
use mir.Facts.{to_z-of_z}
use mir.Syntax.{w64}
use mir.Val.{to_z}
use Rattle.integers.proofs.Machine.{Back, fit_back, of_nat}
use Rattle.integers.proofs.Laws.{sfits_abs}
use Rattle.zones.proofs.Parts.{times_fits}
use Rattle.zones.proofs.node.times.Goals as goal
use Rattle.zones.proofs.node.times.Goals.{Start}

module _ (s : Start) where
  abbrev m : ℤ
  m = s.args.distance.0

  abbrev kw : ℕ
  kw = s.args.kw.0

  bm : Back m
  bm = fit_back (sfits_abs m (omega arith))

  bk : to_z w64 kw ≡ pos kw
  bk = of_nat kw (omega arith)

pub overflow_mul-result : goal.overflow_mul-result
overflow_mul-result c =
    let s = c.before.before.before in
    simp (bm, bk) (times_fits (m s) (kw s) s.requires.0 s.requires.1)

pub returns : goal.returns
returns c = to_z-of_z (overflow_mul-result c) ∙ simp (bm, bk)
