use mathlib.Core.Path.{◌≡◌, sym, ◌∙◌, ap}
use native.Mathlib.Omega.{arith}
use Rattle.tariffs.specs.declared.over.Over.{Over}
use Rattle.tariffs.specs.Sides.{sums_in, with_zone}
use Rattle.tariffs.proofs.Laws.{over_none, over_more, over_fits}
use Rattle.tariffs.proofs.over.over_zones.Goals as goal

pub loop-k-init : goal.loop-k-init
loop-k-init c = sym (over_none _)

pub with_zone-over-requires : goal.with_zone-over-requires
with_zone-over-requires c =
    let p = c.requires.0 in
    (rw c.loop-k.invariant (over_fits c.args.sums.now p c.loop-k.k (omega arith)), p.each c.loop-k.k (omega arith))

pub loop-k-preserved : goal.loop-k-preserved
loop-k-preserved c =
    let sums = c.args.sums.now in
    c.with_zone-over.ensures ∙ ap (λ (o : Over). with_zone o (sums_in sums c.loop-k.k)) c.loop-k.invariant ∙ sym (over_more sums c.loop-k.k)

pub returns : goal.returns
returns c =
    let e : c.loop-k.k ≡ c.args.count = omega arith in
    rw e at c.loop-k.invariant
