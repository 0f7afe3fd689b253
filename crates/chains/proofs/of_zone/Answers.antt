use mathlib.Core.Path.{sym, ◌∙◌}
use native.Mathlib.Omega.{arith}
use Rattle.std.proofs.Common.{get_or, ℕ, ◌-◌}
use Rattle.std.proofs.lemmas.List.{get_or_default}
use Rattle.chains.proofs.Laws.{zone_in, zone_out}
use Rattle.chains.proofs.of_zone.Goals as goal

pub returns-in-1-to-32 : goal.returns-in-1-to-32
returns-in-1-to-32 g c =
    let a = c.args in
    get_or_default a.rows.now (a.z - 1) c.index-rows-z.result a.nothing (omega arith) ∙ zone_in a.nothing (λ (i : ℕ). get_or a.rows.now i a.nothing) a.z (omega arith) (omega arith)

pub returns-in_default : goal.returns-in_default
returns-in_default g c = sym (zone_out _ _ _ (λ h l. omega arith))

pub returns-in_default-2 : goal.returns-in_default-2
returns-in_default-2 g c = sym (zone_out _ _ _ (λ h l. omega arith))
