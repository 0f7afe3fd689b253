use mathlib.Core.Path.{refl}
use native.Mathlib.Omega.{arith}
use Rattle.meaning.specs.Rows.{◌between◌and◌}
use Rattle.station_table.specs.Tec.{cell_of}
use Rattle.station_table.proofs.TecLaws.{Cell, cell_known}
use Rattle.station_table.proofs.tec.cell_of.Goals as goal
use Rattle.station_table.proofs.tec.cell_of.Goals.{Then-node-nodes}

known : (c : Then-node-nodes) → let a = c.args in Cell a.nodes a.node a.plant
known c = cell_known _ _ _ c.if-node-nodes.true

pub returns-then-node-nodes : goal.returns-then-node-nodes
unfolding cell_of ◌between◌and◌
returns-then-node-nodes c = let k = known c in (rw c.if-node-nodes.true refl, omega arith)

pub returns : goal.returns
unfolding cell_of ◌between◌and◌
returns c = rw c.if-node-nodes.false refl
