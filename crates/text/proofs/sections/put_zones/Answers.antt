use mathlib.Core.Path.{◌≡◌}
use native.Mathlib.Numerals.{add-one}
use native.Mathlib.Omega.{arith}
use Rattle.meaning.specs.Sheet.{zone_lines}
use Rattle.lines.specs.Making.{width}
use Rattle.lines.proofs.Making.{kept, longer, ready, copied, rows_start, rows_more}
use Rattle.text.proofs.sections.put_zones.Goals as goal
use Rattle.text.proofs.sections.put_zones.Invariants.{row}

pub loop-k-init : goal.loop-k-init
loop-k-init c = let a = c.args in rows_start a.out.now a.from (row a.side a.f.now)

pub put_line-at-requires : goal.put_line-at-requires
put_line-at-requires c =
    let l = c.loop-k in
    let i = l.invariant in
    ready c.zone_line-line.result c.zone_line-line.ensures (omega arith) l.at (omega (arith, i.next, i.short, kept i))

pub loop-k-preserved : goal.loop-k-preserved
loop-k-preserved c =
    let a = c.args in
    let next = copied c.zone_line-line.result (rw (add-one c.loop-k.k) at c.zone_line-line.ensures) (omega arith) c.put_line-at.ensures in
    longer (rows_more {w = width} (row a.side a.f.now) c.loop-k.k c.loop-k.invariant next) (omega arith)

pub shape_of-out : goal.shape_of-out
shape_of-out c = kept c.loop-k.invariant

pub returns : goal.returns
unfolding zone_lines
returns c =
    let e : c.loop-k.k ≡ c.args.f.now.zones = omega arith in
    longer (rw e at c.loop-k.invariant) (omega arith)
