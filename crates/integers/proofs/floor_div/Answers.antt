-- `integers::floor_div` meets its contract.
use mathlib.Core.Path.{◌≡◌, ◌∙◌}
use mathlib.Core.Logic.{◌⊎◌, inl, inr}
use Prim.Native.Nat.{◌^◌, ◌<◌}
use native.Mathlib.Omega.{arith}
use Rattle.integers.proofs.Core.{Z}
use Rattle.integers.proofs.Machine.{Back, fit_back, back}
use Rattle.integers.proofs.Sign.{floor_euclid, floor_sign, sign_back}
use Rattle.integers.proofs.floor_div.Goals as goal
use Rattle.integers.proofs.floor_div.Goals.{Start, After-from, in_default-via-in-Ok+else-d-gt0, in_default-via-in_default}

bz : (s : Start) → Back s.args.z
bz s = fit_back s.ranges.z

pub returns-in-Ok : goal.returns-in-Ok
returns-in-Ok c =
    let p = c.in-Ok.ensures in
    back _ c.div_euclid.type_inv ∙ simp (bz, fit_back p.0) at (rw p.1 at c.div_euclid.ensures) ∙ floor_euclid _ _

lost : (c : After-from) → (c.args.d ≡ 0) ⊎ (c.args.d < 2 ^ 63 → ⊥)
lost c = elim c.in_default.branch [
  | in_default-via-in-Ok+else-d-gt0 w ↦ let p = w.in-Ok.ensures in inl (omega (arith, simp (fit_back p.0, Z) at (rw p.1 at w.if-d-gt0.false)))
  | in_default-via-in_default w ↦ inr (λ h. w.in_default.ensures (record { sfits = h }))
]

pub returns-in_default : goal.returns-in_default
returns-in_default c = rw c.from.ensures (simp bz (sign_back _ ∙ floor_sign _ _ c.ranges.z (lost c)))
