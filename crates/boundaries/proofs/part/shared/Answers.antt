use mathlib.Core.Path.{◌≡◌, sym, ◌∙◌}
use Prim.Native.Nat.{◌*◌}
use native.Mathlib.Omega.{arith}
use lib.IntN.{pos, ◌*ℤ◌}
use mir.Syntax.{w64}
use mir.Val.{to_z}
use Rattle.integers.proofs.Machine.{Back, fit_back, back, of_nat}
use Rattle.sharing.proofs.Split.{shared_all, shared_more}
use Rattle.boundaries.proofs.Laws.{product_fits}
use Rattle.boundaries.proofs.part.shared.Goals as goal
use Rattle.boundaries.proofs.part.shared.Goals.{Start}

module _ (s : Start) where
  bd : Back s.args.d
  bd = fit_back s.ranges.d

  bc : to_z w64 (2 * s.args.carbon) ≡ pos (2 * s.args.carbon)
  bc = of_nat _ (omega (arith, s.requires.high_carbon))

  bp : Back (s.args.d *ℤ pos (2 * s.args.carbon))
  bp = fit_back (product_fits s.requires)

pub returns-then-low-carbon : goal.returns-then-low-carbon
returns-then-low-carbon c = fit_back c.ranges.d ∙ sym (shared_all c.args.d c.args.low c.args.carbon (omega arith))

pub overflow_mul-d : goal.overflow_mul-d
overflow_mul-d c = simp (bd, bc) (product_fits c.requires)

pub returns : goal.returns
returns c =
    back _ c.floor_div.type_inv ∙ simp (bd, bc, bp) at c.floor_div.ensures ∙ sym (shared_more c.args.d c.args.low c.args.carbon (omega arith))
