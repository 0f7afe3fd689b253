use mathlib.Core.Path.{◌≡◌}
use mathlib.Core.Bool.{Bool, not, true, false}
use Prim.Native.Nat.{ℕ, suc}
use native.Mathlib.Numerals.{add-one}
use Rattle.std.proofs.Common.{rules}
use Rattle.std.proofs.lemmas.Iterator.{first_from_Range}
use Rattle.meaning.specs.Sharing.{sound_zone}
use Rattle.chains.specs.Columns.{next_in, zone_kw}
use Rattle.chains.proofs.Searches.{find_range}
use Rattle.chains.proofs.zone.Zones.first_unsound.Goals as goal

pub returns : goal.returns
returns c =
    let a = c.args.self.now in
    let unsound : ℕ → Bool = λ i. not (sound_zone c.args.self.now.count (zone_kw c.args.self.now.tec.now) (next_in c.args.self.now.next.now) (suc i)) in
    find_range unsound a.count c.find.result (first_from_Range _ _ _ c.find.result (λ i. unsound i ≡ true) (λ i. unsound i ≡ false) c.find.ensures.ran (λ x q k. search (rules, add-one)) (λ x q k. search (rules, add-one)))
