use Rattle.station_table.proofs.ColumnLaws.{stations_are}
use Rattle.station_table.proofs.columns.Goals as goal

pub returns : goal.returns
returns c =
    stations_are _ c.section-nodes.ensures c.section-rows.ensures _ _ _ c.places-node.ensures c.column-plant.ensures c.column-tec.ensures
