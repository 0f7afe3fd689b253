use mathlib.Core.Path.{◌≡◌}
use Rattle.meaning.specs.Sheet.{node_lines}
use Rattle.meaning.proofs.Frame.{row_rise}
use Rattle.lines.proofs.Making.{kept, longer, ready, copied, rows_start, rows_more}
use native.Mathlib.Omega.{arith}
use Rattle.text.proofs.sections.put_nodes.Goals as goal
use Rattle.text.proofs.sections.put_nodes.Invariants.{row}

pub loop-v-init : goal.loop-v-init
loop-v-init c = let a = c.args in rows_start a.out.now a.from (row a.local.now a.names.now.file.now a.names.now.rows)

-- a node's name is inside the file
pub name_at-requires : goal.name_at-requires
name_at-requires c = (omega arith, omega (arith, row_rise c.args.names.now.rows c.loop-v.v c.args.nodes (omega arith)))

pub put_line-at-requires : goal.put_line-at-requires
put_line-at-requires c =
    let l = c.loop-v in
    let i = l.invariant in
    ready c.node_line-line.result c.node_line-line.ensures (omega arith) l.at (omega (arith, i.next, i.short, kept i))

pub loop-v-preserved : goal.loop-v-preserved
loop-v-preserved c =
    let a = c.args in
    let next = copied c.node_line-line.result (rw c.name_at.ensures at c.node_line-line.ensures) (omega arith) c.put_line-at.ensures in
    longer (rows_more {w = 57} (row a.local.now a.names.now.file.now a.names.now.rows) c.loop-v.v c.loop-v.invariant next) (omega arith)

pub shape_of-out : goal.shape_of-out
shape_of-out c = kept c.loop-v.invariant

pub returns : goal.returns
unfolding node_lines
returns c =
    let e : c.loop-v.v ≡ c.args.nodes = omega arith in
    longer (rw e at c.loop-v.invariant) (omega arith)
