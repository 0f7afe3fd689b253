use mathlib.Core.Path.{sym, ◌∙◌}
use native.Mathlib.Omega.{arith}
use Rattle.integers.proofs.Machine.{back}
use Rattle.flows.proofs.Signed.{wider_own, wider_other}
use Rattle.flows.proofs.marks.wider_offset.Goals as goal

pub returns-then-counts_in : goal.returns-then-counts_in
returns-then-counts_in c =
    let b = back c.args.heading.flow (omega (arith, c.struct_told-1.given)) in
    back _ c.signed_length.type_inv ∙ simp b at c.signed_length.ensures ∙ wider_own _ _ _ (sym c.counts_in.ensures ∙ c.if-counts_in.true)

pub returns : goal.returns
returns c = wider_other _ _ _ (sym c.counts_in.ensures ∙ c.if-counts_in.false)
