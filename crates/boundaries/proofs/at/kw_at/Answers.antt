use mathlib.Core.Path.{◌∙◌, ap}
use Prim.Native.Nat.{ℕ}
use lib.ListN.{get_or}
use Rattle.meaning.specs.declared.Kw.{Kw}
use Rattle.meaning.specs.Columns.{kilowatts}
use Rattle.chains.proofs.Laws.{zone_read}
use Rattle.boundaries.specs.Boundaries.{up_to}
use Rattle.boundaries.proofs.at.kw_at.Goals as goal

pub returns : goal.returns
unfolding up_to
returns c =
    let a = c.args in
    c.up_to.ensures ∙ ap (λ (k : Kw). up_to k.0) c.of_zone.ensures
    ∙ zone_read (kilowatts 0) (λ (i : ℕ). get_or a.kw.now i (kilowatts 0)) (λ (k : Kw). up_to k.0) a.z
