use mathlib.Core.Path.{◌≡◌, ◌∙◌}
use Prim.Native.Nat.{ℕ, ◌≤◌}
use native.Mathlib.Omega.{arith}
use lib.IntN.{ℤ, pos, nat_abs, ◌*ℤ◌}
use mir.Syntax.{w64}
use mir.Val.{SFits, to_z}
use Rattle.integers.proofs.Laws.{abs-mul-le, sfits_abs}
use Rattle.integers.proofs.Machine.{Back, fit_back, back, of_nat}
use Rattle.meaning.specs.Charging.{tariff}
use Rattle.tariffs.proofs.price.price.Goals as goal
use Rattle.tariffs.proofs.price.price.Goals.{Start}

module _ (s : Start) where
  abbrev m : ℤ
  m = s.args.metres.0

  abbrev k : ℕ
  k = s.args.constant

  abbrev f : ℕ
  f = s.args.factor

  bm : Back m
  bm = fit_back (sfits_abs m (omega (arith, s.requires.near)))

  bk : to_z w64 k ≡ pos k
  bk = of_nat k (omega (arith, s.requires.constant))

  bf : to_z w64 f ≡ pos f
  bf = of_nat f (omega (arith, s.requires.factor))

  first_most : nat_abs (m *ℤ pos k) ≤ 6600000000000
  first_most = abs-mul-le m (pos k) s.requires.near s.requires.constant

  first : SFits w64 (m *ℤ pos k)
  first = sfits_abs (m *ℤ pos k) (omega (arith, first_most))

  bp : Back (m *ℤ pos k)
  bp = fit_back first

  whole : SFits w64 (m *ℤ pos k *ℤ pos f)
  whole = sfits_abs (m *ℤ pos k *ℤ pos f) (omega (arith, abs-mul-le (m *ℤ pos k) (pos f) first_most s.requires.factor))

  bw : Back (m *ℤ pos k *ℤ pos f)
  bw = fit_back whole

ruleset E = (bm, bk, bf, bp, bw)

pub overflow_mul-product-2 : goal.overflow_mul-product-2
overflow_mul-product-2 c = simp E (whole c.before.before)

pub returns : goal.returns
unfolding tariff
returns c = back _ c.nearest.type_inv ∙ simp E at c.nearest.ensures
