use Rattle.circuit_table.proofs.ColumnLaws.{circuits_are}
use Rattle.circuit_table.proofs.columns.Goals as goal

pub returns : goal.returns
returns c =
    circuits_are _ c.section-nodes.ensures c.section-rows.ensures _ _ _ _ _ _ c.settings-factors.ensures c.places-first.ensures
    c.places-second.ensures c.column-x.ensures c.by_circuit-length.ensures c.column-mark.ensures
