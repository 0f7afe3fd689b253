use mathlib.Core.Path.{◌∙◌, ap}
use Prim.Native.Nat.{ℕ}
use lib.ListN.{get_or}
use Rattle.meaning.specs.declared.Kw.{Kw}
use Rattle.meaning.specs.Columns.{kilowatts}
use Rattle.chains.proofs.Laws.{zone_read}
use Rattle.chains.proofs.zone.Zones.kw.Goals as goal

pub returns : goal.returns
returns c =
    let a = c.args in
    ap (λ (k : Kw). k.0) c.of_zone.ensures ∙ zone_read (kilowatts 0) (λ (i : ℕ). get_or a.self.now.tec.now i (kilowatts 0)) (λ (k : Kw). k.0) a.z
