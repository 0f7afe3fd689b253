use mathlib.Core.Path.{◌≡◌}
use native.Mathlib.Omega.{arith}
use lib.ListN.{length}
use Rattle.integers.proofs.Machine.{back}
use Rattle.meaning.specs.Proposal.{potential}
use Rattle.zones.specs.declared.node.Part.{Part}
use Rattle.zones.specs.Sums.{part_at, nodes_in, zone_sums, PartFits}
use Rattle.zones.proofs.Laws.{reached_most, sums_start, sums_turn, all_fit, fits_at}
use Rattle.zones.proofs.sums_by_zone.Goals as goal
use Rattle.zones.proofs.sums_by_zone.Goals.{After-part_of-part, At-loop-v}

pub loop-v-init : goal.loop-v-init
loop-v-init c =
    let a = c.args in
    let r = reached_most a.nodes (length a.wider.now) in
    (rw c.nodes_in-count.ensures r.0, rw c.nodes_in-count.ensures r.1, rw c.nothing-all.ensures (sums_start a.side a.zone a.weight a.paying a.wider.now))

-- what the node adds
module _ (c : After-part_of-part) where
  abbrev l : At-loop-v
  l = c.before.before.before.before.before

  abbrev mine : Part
  mine = let a = l.args in part_at a.side a.zone a.weight a.paying a.wider.now l.loop-v.v

  added : c.part_of-part.result ≡ mine
  added = simp (back (potential l.args.wider.now l.loop-v.v) c.part_of-arg-in-loop-v-2-1.given) at c.part_of-part.ensures

  fits : PartFits c.part_of-part.result
  fits = let a = l.args in rw added (fits_at a.side a.zone a.weight a.paying a.wider.now l.loop-v.v)

pub offset_bounds-all-k : goal.offset_bounds-all-k
offset_bounds-all-k c = omega (arith, (fits c).slot)

pub bounds-all-k : goal.bounds-all-k
bounds-all-k c = (fits c).slot

pub plus-requires : goal.plus-requires
plus-requires c =
    let p = c.before.before in
    let a = (l p).args in
    (all_fit a.side a.zone a.weight a.paying a.wider.now (l p).loop-v.v _ (omega arith) (fits p).slot (l p).loop-v.invariant.2, (fits p).adds)

pub offset_bounds-all-k-in-loop-v : goal.offset_bounds-all-k-in-loop-v
offset_bounds-all-k-in-loop-v c = omega (arith, (fits c.before.before.before).slot)

pub bounds-all-k-in-loop-v : goal.bounds-all-k-in-loop-v
bounds-all-k-in-loop-v c = (fits c.before.before.before).slot

pub loop-v-preserved : goal.loop-v-preserved
loop-v-preserved c =
    let p = c.before.before.before in
    let a = (l p).args in
    let e = added p in
    (omega arith, omega arith, rw e (sums_turn a.side a.zone a.weight a.paying a.wider.now (l p).loop-v.v (l p).loop-v.invariant.2 (rw e at c.plus.ensures)))

pub returns : goal.returns
unfolding zone_sums
returns c =
    let e : c.loop-v.v ≡ nodes_in c.args.nodes (length c.args.wider.now) = omega (arith, c.nodes_in-count.ensures) in
    rw e at c.loop-v.invariant.2
