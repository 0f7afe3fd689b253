use mathlib.Core.Path.{◌≡◌, sym, ◌∙◌}
use Prim.Native.Nat.{◌+◌}
use native.Mathlib.Omega.{arith}
use mir.Syntax.{w64}
use mir.Val.{of_z, to_z}
use Rattle.integers.proofs.Machine.{Back, back}
use Rattle.meaning.proofs.Columns.{column_none, column_turn, column_done}
use Rattle.numbers.specs.Numbers.{no_heading}
use Rattle.flows.specs.Flows.{number, headings_of}
use Rattle.flows.proofs.headings.Goals as goal

pub loop-c-init : goal.loop-c-init
loop-c-init c = sym (column_none no_heading 512 _)

pub loop-c-preserved : goal.loop-c-preserved
loop-c-preserved c =
    let bf : Back (number c.args.base.now (c.args.n + c.loop-c.c)) = back _ c.heading_of-arg-in-loop-c-1.given in
    let answered : to_z w64 (of_z w64 c.number_at-peak.result) ≡ number c.args.peak_base.now (c.args.n + c.loop-c.c) = back _ c.number_at-peak.type_inv ∙ c.number_at-peak.ensures in
    column_turn no_heading 512 _ c.loop-c.c (omega arith) c.loop-c.invariant (simp (bf, answered) at c.heading_of.ensures)

pub returns : goal.returns
unfolding headings_of
returns c =
    column_done no_heading 512 _ _ c.loop-c.c c.loop-c.invariant (omega arith) (omega arith)
