use mathlib.Core.Path.{◌∙◌}
use native.Mathlib.Omega.{arith}
use Rattle.integers.proofs.Machine.{back}
use Rattle.flows.proofs.Signed.{base_none, wider_unmarked, wider_marked, local_unmarked, local_marked}
use Rattle.flows.proofs.marks.offset_of.Goals as goal

pub returns-in-Wider : goal.returns-in-Wider
returns-in-Wider c =
    back _ c.wider_offset.type_inv ∙ c.wider_offset.ensures ∙ wider_unmarked _ _ _ _ c.in-Wider.is c.if-mark-eq0.true

pub returns-in-Local : goal.returns-in-Local
returns-in-Local c =
    let b = back c.args.heading.flow (omega (arith, c.struct_told-1.given)) in
    back _ c.signed_length.type_inv ∙ simp b at c.signed_length.ensures ∙ local_marked _ _ _ _ c.in-Local.is c.if-mark-ne0.true

pub returns-in_default : goal.returns-in_default
returns-in_default c = wider_marked _ _ _ _ c.in-Wider.is c.if-mark-eq0.false

pub returns-in_default-2 : goal.returns-in_default-2
returns-in_default-2 c = local_unmarked _ _ _ _ c.in-Local.is c.if-mark-ne0.false

pub returns-in_default-3 : goal.returns-in_default-3
returns-in_default-3 c = base_none _ _ _ _ c.in_default.is
