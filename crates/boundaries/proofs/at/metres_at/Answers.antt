use mathlib.Core.Path.{◌∙◌, ap}
use Prim.Native.Nat.{ℕ}
use native.Mathlib.Omega.{arith}
use lib.IntN.{pos}
use lib.ListN.{get_or}
use Rattle.integers.proofs.Machine.{back}
use Rattle.meaning.specs.declared.Metres.{Metres}
use Rattle.meaning.specs.Columns.{distance}
use Rattle.chains.proofs.Laws.{zone_read}
use Rattle.boundaries.specs.Boundaries.{close}
use Rattle.boundaries.proofs.at.metres_at.Goals as goal

pub returns : goal.returns
unfolding close
returns c =
    let a = c.args in
    back _ c.close.type_inv ∙ simp (back c.of_zone.result.0 (omega arith)) at c.close.ensures ∙ ap (λ (m : Metres). close m.0) c.of_zone.ensures
    ∙ zone_read (distance (pos 0)) (λ (i : ℕ). get_or a.metres.now i (distance (pos 0))) (λ (m : Metres). close m.0) a.z
