use mathlib.Core.Path.{refl, ◌∙◌}
use mathlib.Core.Bool.{Bool}
use Prim.Native.Nat.{ℕ, ◌-◌}
use Rattle.std.proofs.Common.{rules}
use Rattle.std.proofs.lemmas.Iterator.{YieldsList-from_range}
use Rattle.std.proofs.lemmas.Iterator.Search.{any_from_yields_List}
use Rattle.meaning.specs.Sharing.{is_centre}
use Rattle.chains.specs.Columns.{next_in, zone_kw}
use Rattle.chains.proofs.Searches.{any_from_one}
use Rattle.chains.proofs.zone.Zones.has_centre_below.Goals as goal

pub returns : goal.returns
returns c =
    let a = c.args in
    let centre : ℕ → Bool = λ z. is_centre 32 (zone_kw c.args.self.now.tec.now) (next_in c.args.self.now.next.now) z in
    any_from_yields_List centre _ _ _ c.any.ensures.ran (YieldsList-from_range 1 a.z (a.z - 1) refl refl) (λ x b q k. search rules) ∙ any_from_one centre (a.z - 1)
