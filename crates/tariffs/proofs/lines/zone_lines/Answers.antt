use mathlib.Core.Path.{◌≡◌}
use native.Mathlib.Omega.{arith}
use Rattle.meaning.specs.Columns.{no_line}
use Rattle.meaning.proofs.Columns.{column_begun, column_turn}
use Rattle.tariffs.proofs.lines.zone_lines.Goals as goal

pub loop-k-init : goal.loop-k-init
loop-k-init c = column_begun _ _ _ c.no_line-all.ensures

pub zone_line-requires : goal.zone_line-requires
zone_line-requires c =
    let p = c.requires in
    (p.1.each c.loop-k.k (omega arith), p.2.each c.loop-k.k (omega arith), p.3)

pub loop-k-preserved : goal.loop-k-preserved
loop-k-preserved c = column_turn no_line 32 _ c.loop-k.k (omega arith) c.loop-k.invariant c.zone_line.ensures

pub returns : goal.returns
returns c =
    let e : c.loop-k.k ≡ c.args.count = omega arith in
    rw e at c.loop-k.invariant
