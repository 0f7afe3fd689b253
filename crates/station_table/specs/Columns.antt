-- The columns of a study's stations: a row past the end of the table is all zero and has no name.
use Rattle.meaning.specs.Rows.{rows}
use Rattle.meaning.specs.Study.{Study, station}
use Rattle.meaning.specs.Grid.{place}
use Rattle.meaning.specs.Columns.{kilowatts}
use Rattle.station_table.specs.declared.StationColumns.{StationColumns}

-- the number of each station's node, plant type, TEC
unfoldable pub stations_of : Study → StationColumns
stations_of S =
    record {
      node = rows 512 (λ k. place S.nodes (station S.stations k).node);
      plant = rows 512 (λ k. (station S.stations k).plant_type);
      tec = rows 512 (λ k. kilowatts (station S.stations k).tec);
    }
