-- `text::sections::put_figures` meets its contract: each call writes the next part of the text.
use native.Mathlib.Omega.{arith}
use Rattle.integers.proofs.Machine.{back}
use Rattle.meaning.specs.Sheet.{sheet_text}
use Rattle.lines.proofs.Making.{both, ready, copied, kept}
use Rattle.text.proofs.sections.put_figures.Goals as goal

pub put_line-at-requires : goal.put_line-at-requires
put_line-at-requires c = ready c.constant_line-first.result c.constant_line-first.ensures (omega arith) 0 (omega arith)

pub put_line-requires : goal.put_line-requires
put_line-requires c =
    let first = copied c.constant_line-first.result c.constant_line-first.ensures (omega arith) c.put_line-at.ensures in
    let before = both first (both c.put_zones-at.ensures (both c.put_zones-at-2.ensures c.put_nodes-at.ensures)) in
    ready c.remainder_line-last.result c.remainder_line-last.ensures (omega arith) c.put_nodes-at.result (omega (arith, before.next, before.short, kept before))

pub shape_of-out : goal.shape_of-out
shape_of-out c =
    omega (arith, c.put_line.auto.out, c.put_nodes-at.auto.out, c.put_zones-at-2.auto.out, c.put_zones-at.auto.out, c.put_line-at.auto.out)

pub returns : goal.returns
unfolding sheet_text
returns c =
    let f = c.args.figures.now in
    let bg = back f.generation.remainder (omega arith) in
    let bd = back f.demand.remainder (omega arith) in
    let first = copied c.constant_line-first.result c.constant_line-first.ensures (omega arith) c.put_line-at.ensures in
    let last = copied c.remainder_line-last.result (rw (bg, bd) at c.remainder_line-last.ensures) (omega arith) c.put_line.ensures in
    both first (both c.put_zones-at.ensures (both c.put_zones-at-2.ensures (both c.put_nodes-at.ensures last)))
