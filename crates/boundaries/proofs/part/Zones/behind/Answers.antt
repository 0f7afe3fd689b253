use mathlib.Core.Path.{◌≡◌, sym, ◌∙◌, ap, ap₂}
use Prim.Native.Nat.{ℕ, ◌+◌}
use native.Mathlib.Omega.{arith}
use native.Mathlib.Numerals.{add-one}
use Rattle.integers.specs.Numbers.{sum as sum_of}
use Rattle.integers.proofs.Sum.{sum-zero, sum_more}
use Rattle.boundaries.proofs.Laws.{adds, more_fits, behind_is}
use Rattle.boundaries.proofs.part.Zones.behind.Goals as goal
use Rattle.boundaries.proofs.part.Zones.behind.Goals.{After-kw_behind-sum}

pub loop-i-init : goal.loop-i-init
loop-i-init c = sym (sum-zero _)

-- what is added
more : (c : After-kw_behind-sum) → let a = c.args in
    (c.kw_behind-sum.result ≡ adds a.self.now.count a.self.now.next.now a.kw.now a.b c.loop-i.i)
more c = rw add-one at c.kw_behind-sum.ensures

pub overflow_add-sum : goal.overflow_add-sum
overflow_add-sum c =
    let a = c.args in
    omega (arith, c.loop-i.invariant, more c, more_fits a.self.now.count a.self.now.next.now a.kw.now a.b c.loop-i.i (omega arith) (omega arith))

pub loop-i-preserved : goal.loop-i-preserved
loop-i-preserved c = ap₂ ◌+◌ c.loop-i.invariant (more c) ∙ sym (sum_more c.loop-i.i _)

pub returns : goal.returns
returns c =
    let a = c.args in
    let e : c.loop-i.i ≡ a.self.now.count = omega arith in
    c.loop-i.invariant ∙ ap (λ (n : ℕ). sum_of n (adds a.self.now.count a.self.now.next.now a.kw.now a.b)) e ∙ behind_is a.self.now.count a.self.now.next.now a.kw.now a.b
