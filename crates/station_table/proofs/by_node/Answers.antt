use mathlib.Core.Path.{sym}
use native.Mathlib.Omega.{arith}
use Rattle.meaning.proofs.Columns.{column_none, column_turn}
use Rattle.station_table.specs.Tec.{by_node}
use Rattle.meaning.proofs.Columns.{column_full}
use Rattle.station_table.proofs.by_node.Goals as goal

pub loop-v-init : goal.loop-v-init
loop-v-init c = sym (column_none _ _ _)

pub loop-v-preserved : goal.loop-v-preserved
loop-v-preserved c = column_turn _ _ _ c.loop-v.v (omega arith) c.loop-v.invariant c.of_node.ensures

pub returns : goal.returns
unfolding by_node
returns c = column_full _ _ _ c.loop-v.v c.loop-v.invariant (omega arith) (omega arith)
