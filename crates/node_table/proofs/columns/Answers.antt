use Rattle.node_table.proofs.ColumnLaws.{nodes_are}
use Rattle.node_table.proofs.columns.Goals as goal

pub returns : goal.returns
returns c = nodes_are _ c.section-rows.ensures _ _ _ c.column-generation_zone.ensures c.column-demand_zone.ensures c.column-demand.ensures
