use native.Mathlib.Omega.{arith}
use borrow.Author.Tests.{lt-leb}
use Rattle.text.proofs.Sizing.{sized_few, sized_false}
use Rattle.text.proofs.sections.sized.Goals as goal

pub returns-then-figures-le256 : goal.returns-then-figures-le256
returns-then-figures-le256 c =
    rw c.row_at.ensures (sized_few c.args.figures.now c.args.names.now.file.now c.args.names.now.rows (omega arith))

pub returns-else-figures-le256 : goal.returns-else-figures-le256
returns-else-figures-le256 c =
    let f = c.args.figures.now in
    rw (lt-leb f.nodes 256 (omega arith)) (sized_false f c.args.names.now.file.now c.args.names.now.rows (λ w. omega (arith, w.nodes)))
