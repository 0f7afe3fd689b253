use mathlib.Core.Path.{refl, ap}
use native.Mathlib.Omega.{arith}
use Rattle.meaning.specs.declared.Kw.{Kw}
use Rattle.meaning.specs.Answers.{unless}
use Rattle.tables.proofs.ScalingLaws.{total_low}
use Rattle.tables.proofs.chain.scaling_stage.Goals as goal

pub overflow_add-fixed : goal.overflow_add-fixed
overflow_add-fixed c =
    let a = c.args in
    omega (arith, ap (λ (k : Kw). k.0) c.total-fixed.ensures, ap (λ (k : Kw). k.0) c.total-variable.ensures, total_low a.n a.fixed, total_low a.n a.variable)

pub returns-then-fixed-demand : goal.returns-then-fixed-demand
unfolding unless
returns-then-fixed-demand c =
    rw (← c.total-demand.ensures, ← c.total-variable.ensures, ← c.total-fixed.ensures, c.if-fixed-demand.true) refl

pub returns : goal.returns
unfolding unless
returns c =
    rw (← c.total-demand.ensures, ← c.total-variable.ensures, ← c.total-fixed.ensures, c.if-fixed-demand.false) refl
