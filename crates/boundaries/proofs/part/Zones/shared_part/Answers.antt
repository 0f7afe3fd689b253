use mathlib.Core.Path.{◌≡◌, ◌∙◌, ap}
use native.Mathlib.Omega.{arith}
use mir.Syntax.{w64}
use mir.Val.{to_z, of_z}
use Rattle.integers.proofs.Machine.{Back, fit_back, back}
use Rattle.chains.specs.Columns.{next_in}
use Rattle.boundaries.specs.Boundaries.{near}
use Rattle.boundaries.proofs.Laws.{far, far_fits, part_fits, part_is}
use Rattle.boundaries.proofs.part.Zones.shared_part.Goals as goal
use Rattle.boundaries.proofs.part.Zones.shared_part.Goals.{After-metres_at-inner_metres, Start}

module _ (c : After-metres_at-inner_metres) where
  abbrev s : Start
  s = c.before.before.before

  b1 : to_z w64 (of_z w64 c.metres_at-outer_metres.result) ≡ near s.args.self.now.metres.now s.args.z
  b1 = back _ c.metres_at-outer_metres.type_inv ∙ c.metres_at-outer_metres.ensures

  b2 : to_z w64 (of_z w64 c.metres_at-inner_metres.result) ≡ near s.args.self.now.metres.now (next_in s.args.self.now.next.now s.args.z)
  b2 = back _ c.metres_at-inner_metres.type_inv ∙ c.metres_at-inner_metres.ensures ∙ ap (near s.args.self.now.metres.now) c.step-inner.ensures

  bb : Back (far s.args.self.now.count s.args.self.now.next.now s.args.self.now.low.now s.args.self.now.carbon.now s.args.self.now.metres.now s.args.z)
  bb = fit_back (far_fits s.args.self.now.count s.args.self.now.next.now s.args.self.now.low.now s.args.self.now.carbon.now s.args.self.now.metres.now s.args.z)

pub overflow_sub-outer_metres : goal.overflow_sub-outer_metres
overflow_sub-outer_metres c =
    let d = c.before.before in
    let a = (s d).args in
    simp (b1, b2) (far_fits a.self.now.count a.self.now.next.now a.self.now.low.now a.self.now.carbon.now a.self.now.metres.now a.z)

pub shared-requires : goal.shared-requires
shared-requires c =
    let d = c.before.before in
    let a = (s d).args in
    simp (b1, b2, bb) (rw (c.behind-l.ensures, c.behind-c.ensures) (part_fits a.self.now.count a.self.now.next.now a.self.now.low.now a.self.now.carbon.now a.self.now.metres.now a.z (omega arith)))

pub returns : goal.returns
returns c =
    let a = (s c.before.before.before).args in
    let l = c.behind-l.ensures in
    let h = c.behind-c.ensures in
    rw (← part_is a.self.now.count a.self.now.next.now a.self.now.low.now a.self.now.carbon.now a.self.now.metres.now a.z) (back _ c.shared.type_inv ∙ simp (b1, b2, bb, l, h) at c.shared.ensures)
