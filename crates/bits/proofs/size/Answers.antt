use Prim.Native.Nat.{ℕ, ◌+◌}
use mathlib.Core.Path.{ap₂, ◌∙◌}
use Rattle.bits.proofs.Sets.{size_is}
use Rattle.bits.proofs.size.Goals as goal

pub returns : goal.returns
returns c =
    let a = c.args in
    ap₂ (λ (x y : ℕ). x + y) (ap₂ (λ (x y : ℕ). x + y) (ap₂ (λ (x y : ℕ). x + y) c.ones.ensures.0 c.ones-2.ensures.0) c.ones-3.ensures.0) c.ones-4.ensures.0
    ∙ size_is a.set
