use mathlib.Core.Path.{◌≡◌, sym, ◌∙◌}
use native.Mathlib.Omega.{arith}
use lib.IntN.{ℤ, pos, ◌*ℤ◌}
use mir.Syntax.{w64}
use mir.Val.{to_z, of_z}
use Rattle.integers.proofs.Machine.{fit_back, back}
use Rattle.meaning.specs.Charging.{metres, turned}
use Rattle.zones.specs.Sums.{in_ranges}
use Rattle.zones.proofs.Parts.{Counts, counted, part_full, part_none}
use Rattle.zones.proofs.node.part_of.Goals as goal
use Rattle.zones.proofs.node.part_of.Goals.{After-in_ranges, Start, Then-in_ranges}

module _ (c : After-in_ranges) where
  abbrev s : Start
  s = c.before.before

  abbrev m : ℤ
  m = turned s.args.side (metres s.args.potential)

  far : c.distance-distance.result.0 ≡ m
  far = simp (fit_back s.ranges.potential) at c.distance-distance.ensures

  tested : c.in_ranges.result ≡ in_ranges s.args.zone s.args.weight.0 s.args.paying.0 m
  tested = rw far at c.in_ranges.ensures

in_range_lem : (c : Then-in_ranges) → Counts (s c.before).args.zone (s c.before).args.weight.0 (s c.before).args.paying.0 (m c.before)
in_range_lem c = counted _ _ _ _ (sym (tested c.before) ∙ c.if-in_ranges.true)

pub overflow_sub-result : goal.overflow_sub-result
overflow_sub-result c = (in_range_lem c).least

pub times-requires : goal.times-requires
times-requires c = (rw (far c.before) (in_range_lem c).near, omega (arith, (in_range_lem c).weighs))

pub returns-then-in_ranges : goal.returns-then-in_ranges
returns-then-in_ranges c =
    let d = c.before.before in
    let a = (s d).args in
    let e : to_z w64 (of_z w64 c.times.result) ≡ m d *ℤ pos a.weight.0 = back _ c.times.type_inv ∙ rw (far d) at c.times.ensures in
    rw e (sym (part_full a.side a.zone a.weight a.paying a.potential (sym (tested d) ∙ c.if-in_ranges.true)))

pub returns : goal.returns
returns c =
    let d = c.before.before in
    let a = (s d).args in
    rw c.nothing.ensures (sym (part_none a.side a.zone a.weight a.paying a.potential (sym (tested d) ∙ c.if-in_ranges.false)))
