use mathlib.Core.Path.{◌≡◌, sym, ◌∙◌}
use Prim.Native.Nat.{min}
use native.Mathlib.Omega.{arith}
use Rattle.meaning.specs.Sharing.{passes}
use Rattle.chains.specs.Columns.{next_in}
use Rattle.boundaries.proofs.part.Zones.kw_behind.Goals as goal
use Rattle.boundaries.proofs.part.Zones.kw_behind.Goals.{After-passes}

-- what the test tells
told : (c : After-passes) → let a = c.args in passes (next_in a.self.now.next.now) a.self.now.count a.z a.b ≡ c.passes.result
told c = let e : min c.args.self.now.count 32 ≡ c.args.self.now.count = omega arith in sym (rw e at c.passes.ensures)

pub returns-then-passes : goal.returns-then-passes
returns-then-passes c = rw (told c.before.before ∙ c.if-passes.true) c.kw_at.ensures

pub returns : goal.returns
returns c = rw (told c.before ∙ c.if-passes.false)
