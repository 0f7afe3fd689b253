use mathlib.Core.Path.{◌≡◌, ◌∙◌}
use Prim.Native.Nat.{ℕ}
use native.Mathlib.Omega.{arith}
use lib.IntN.{ℤ, pos, ◌-ℤ◌, ◌*ℤ◌}
use mir.Syntax.{w64}
use mir.Val.{to_z, of_z}
use Rattle.integers.specs.Numbers.{floor_div}
use Rattle.integers.proofs.Machine.{Back, fit_back, back, of_nat, cast_u64}
use Rattle.meaning.specs.Charging.{residual_of, remainder_of}
use Rattle.rests.specs.Rests.{rest_over}
use Rattle.rests.proofs.Laws.{product_fits, left_fits, left_nonneg}
use Rattle.rests.proofs.Rest.of.Goals as goal
use Rattle.rests.proofs.Rest.of.Goals.{After-floor_div-each, Start}

module _ (s : Start) where
  abbrev z : ℤ
  z = s.args.z

  abbrev d : ℕ
  d = s.args.d

  bz : Back z
  bz = fit_back s.ranges.z

  bd : to_z w64 d ≡ pos d
  bd = of_nat d (omega (arith, s.requires.most))

  bp : Back (floor_div z d *ℤ pos d)
  bp = fit_back (product_fits z d s.requires)

  bl : Back (z -ℤ floor_div z d *ℤ pos d)
  bl = fit_back (left_fits z d s.requires)

called : (c : After-floor_div-each) → to_z w64 (of_z w64 c.floor_div-each.result) ≡ floor_div (z c.before) (d c.before)
called c = back _ c.floor_div-each.type_inv ∙ simp bz at c.floor_div-each.ensures

ruleset E = (bz, bd, bp, bl, called)

pub overflow_mul-result : goal.overflow_mul-result
overflow_mul-result c = simp E (product_fits (z c.before) (d c.before) c.requires)

pub overflow_sub-result : goal.overflow_sub-result
overflow_sub-result c = simp E (left_fits (z c.before) (d c.before) c.requires)

pub overflow_cast-result-2 : goal.overflow_cast-result-2
overflow_cast-result-2 c =
    let s = c.before in
    simp E (cast_u64 _ (left_nonneg (z s) (d s) s.requires.some) (left_fits (z s) (d s) s.requires))

pub returns : goal.returns
unfolding rest_over residual_of remainder_of
returns c = simp E
