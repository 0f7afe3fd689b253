use mathlib.Core.Path.{◌≡◌, sym, ◌∙◌}
use Prim.Native.Nat.{◌+◌, ◌-◌}
use native.Mathlib.Omega.{arith}
use Rattle.meaning.specs.File.{name_at}
use Rattle.names.proofs.NameLaws.{formed_cut}
use Rattle.names.proofs.name_formed.Goals as goal

pub returns-then-inside : goal.returns-then-inside
unfolding name_at
returns-then-inside c = let e : c.args.at + 12 - c.args.at ≡ 12 = omega arith in rw e at c.formed.ensures

pub returns-else-inside : goal.returns-else-inside
returns-else-inside c = c.if-inside.false ∙ sym (formed_cut _ _ (omega (arith, c.inside.ensures.cut c.if-inside.false)))
