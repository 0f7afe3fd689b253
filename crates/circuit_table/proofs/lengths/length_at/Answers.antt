use mathlib.Core.Path.{◌∙◌}
use Rattle.circuit_table.proofs.LengthLaws.{length_read}
use Rattle.circuit_table.proofs.lengths.length_at.Goals as goal

pub returns : goal.returns
returns c =
    let voltage = rw c.row_at-at.ensures at c.u32_at-voltage.ensures.value in
    let overhead = rw c.row_at-at.ensures at c.u32_at-overhead.ensures.value in
    let cable = rw c.row_at-at.ensures at c.u32_at-cable.ensures.value in
    c.expanded.ensures ∙ length_read _ _ _ _ _ _ _ _ _ _ voltage overhead cable c.factor_at.ensures c.factors_for-over.ensures.overhead c.factors_for-over.ensures.cable
