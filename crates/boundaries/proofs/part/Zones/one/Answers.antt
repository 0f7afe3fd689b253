use mathlib.Core.Path.{◌≡◌, ◌∙◌}
use lib.IntN.{ℤ, ◌-ℤ◌}
use mir.Syntax.{w64}
use mir.Val.{SFits, to_z, of_z}
use Rattle.integers.proofs.Machine.{Back, fit_back, back}
use Rattle.meaning.specs.Sharing.{along}
use Rattle.chains.specs.Columns.{next_in}
use Rattle.boundaries.specs.Boundaries.{near}
use Rattle.boundaries.specs.Parts.{part_in, one_of}
use Rattle.boundaries.proofs.Laws.{rest_fits}
use Rattle.boundaries.proofs.part.Zones.one.Goals as goal
use Rattle.boundaries.proofs.part.Zones.one.Goals.{After-along-shared, After-metres_at-all, Start}

module _ (s : Start) where
  abbrev shared : ℤ
  shared = along s.args.self.now.count (next_in s.args.self.now.next.now) (part_in s.args.parts.now) s.args.self.now.count s.args.z

  fits : SFits w64 (near s.args.self.now.metres.now s.args.z -ℤ shared)
  fits = rest_fits s.args.self.now.count s.args.self.now.next.now s.args.self.now.metres.now s.requires s.args.self.now.few s.args.z

  bf : Back (near s.args.self.now.metres.now s.args.z -ℤ shared)
  bf = fit_back fits

bs : (c : After-along-shared) → to_z w64 (of_z w64 c.along-shared.result) ≡ shared c.before
bs c = back _ c.along-shared.type_inv ∙ c.along-shared.ensures

bm : (c : After-metres_at-all) → to_z w64 (of_z w64 c.metres_at-all.result) ≡ near c.args.self.now.metres.now c.args.z
bm c = back _ c.metres_at-all.type_inv ∙ c.metres_at-all.ensures

pub overflow_sub-result : goal.overflow_sub-result
overflow_sub-result c = simp (bs, bm) (fits c.before.before)

pub returns : goal.returns
unfolding one_of
returns c = simp (bs, bm, bf)
