use mathlib.Core.Path.{refl, ◌∙◌}
use mathlib.Core.Bool.{Bool}
use Prim.Native.Nat.{ℕ, suc}
use lib.Dec.{leb}
use Rattle.std.proofs.Common.{rules}
use Rattle.std.proofs.lemmas.Iterator.{YieldsList-from_range}
use Rattle.std.proofs.lemmas.Iterator.Search.{all_from_yields_List}
use Rattle.meaning.specs.Sharing.{load_factor}
use Rattle.chains.proofs.Searches.{all_below}
use Rattle.chains.proofs.frame.low.Goals as goal

pub returns : goal.returns
returns c =
    let low : ℕ → Bool = λ t. leb (load_factor c.args.share.now c.args.zones (suc t)) 1000 in
    all_from_yields_List low _ _ _ c.all.ensures.ran (YieldsList-from_range 0 7 7 refl refl) (λ x b q k. search rules) ∙ all_below low 7
