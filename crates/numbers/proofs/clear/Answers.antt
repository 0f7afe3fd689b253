use mathlib.Core.Path.{refl, ◌∙◌, ap}
use mathlib.Core.Bool.{not}
use native.Mathlib.Omega.{arith}
use Rattle.integers.proofs.Machine.{back}
use Rattle.numbers.proofs.Doubt.{clear_long}
use Rattle.numbers.specs.Numbers.{clear_in}
use Rattle.numbers.proofs.clear.Goals as goal

pub returns-then-length-eq0 : goal.returns-then-length-eq0
unfolding clear_in
returns-then-length-eq0 c = rw c.if-length-eq0.true refl

pub returns-else-length-eq0 : goal.returns-else-length-eq0
returns-else-length-eq0 c = simp (back c.args.heading.flow (omega (arith, c.struct_told-1.given))) at (ap not c.doubtful.ensures) ∙ clear_long c.args.length c.args.heading (omega arith)
