-- The columns of a study's nodes: a row past the end of the table is all zero.
use Rattle.meaning.specs.Rows.{rows}
use Rattle.meaning.specs.Study.{Study, node}
use Rattle.meaning.specs.Columns.{kilowatts}
use Rattle.node_table.specs.declared.NodeColumns.{NodeColumns}

-- zones and demand of each node
unfoldable pub nodes_of : Study → NodeColumns
nodes_of S =
    record {
      generation_zone = rows 256 (λ v. (node S.nodes v).generation_zone);
      demand_zone = rows 256 (λ v. (node S.nodes v).demand_zone);
      demand = rows 256 (λ v. kilowatts (node S.nodes v).demand);
    }
