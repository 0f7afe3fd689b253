use mathlib.Core.Path.{refl, ◌∙◌}
use native.Mathlib.Omega.{arith}
use lib.IntN.{pos}
use Rattle.integers.proofs.Machine.{back}
use Rattle.meaning.proofs.Columns.{column_begun, column_turn, column_done}
use Rattle.flows.specs.Flows.{offsets_of}
use Rattle.flows.proofs.offsets.Goals as goal

pub loop-c-init : goal.loop-c-init
loop-c-init c = column_begun (pos 0) 512 _ refl

pub loop-c-preserved : goal.loop-c-preserved
loop-c-preserved c = column_turn (pos 0) 512 _ c.loop-c.c (omega arith) c.loop-c.invariant (back _ c.offset_of.type_inv ∙ c.offset_of.ensures)

pub returns : goal.returns
unfolding offsets_of
returns c = column_done (pos 0) 512 _ 512 c.loop-c.c c.loop-c.invariant (omega arith) (omega arith)
