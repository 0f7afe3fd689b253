-- The columns of a study's circuits: a row past the end of the table is all zero and has no name.
use Rattle.meaning.specs.Rows.{rows}
use Rattle.meaning.specs.Study.{Study, circuit}
use Rattle.meaning.specs.Grid.{place}
use Rattle.circuit_table.specs.Lengths.{length_if_in_range}
use Rattle.circuit_table.specs.declared.CircuitColumns.{CircuitColumns}

-- numbers of each circuit's end nodes, the count of nodes where there is none; x, expanded length in mm, local mark
unfoldable pub circuits_of : Study → CircuitColumns
circuits_of S =
    record {
      first = rows 512 (λ c. place S.nodes (circuit S.circuits c).first);
      second = rows 512 (λ c. place S.nodes (circuit S.circuits c).second);
      x = rows 512 (λ c. (circuit S.circuits c).x);
      length = rows 512 (λ c. length_if_in_range S.settings (circuit S.circuits c));
      mark = rows 512 (λ c. (circuit S.circuits c).local_mark);
    }
