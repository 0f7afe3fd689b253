use mathlib.Core.Path.{refl, ◌∙◌}
use native.Mathlib.Omega.{arith}
use lib.IntN.{pos}
use Rattle.integers.proofs.Machine.{back}
use Rattle.meaning.proofs.Columns.{column_begun, column_turn, column_done}
use Rattle.supply.proofs.nodes.supplies.Goals as goal

pub loop-v-init : goal.loop-v-init
loop-v-init c = column_begun (pos 0) 256 _ refl

pub net_supply-requires : goal.net_supply-requires
net_supply-requires c =
    (c.requires.1.each _ (omega arith), c.requires.2.each _ (omega arith), c.requires.3.each _ (omega arith))

pub loop-v-preserved : goal.loop-v-preserved
loop-v-preserved c = column_turn (pos 0) 256 _ c.loop-v.v (omega arith) c.loop-v.invariant (back _ c.net_supply.type_inv ∙ c.net_supply.ensures)

pub returns : goal.returns
returns c = column_done (pos 0) 256 _ c.args.n c.loop-v.v c.loop-v.invariant c.loop-v.auto.v-end c.loop-v-test.false
