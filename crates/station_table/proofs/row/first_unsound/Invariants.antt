use Rattle.meaning.proofs.Rows.{Passed}
use Rattle.station_table.specs.Told.{unsound_station}
use Rattle.station_table.proofs.row.first_unsound.Given as goal

abbrev pub invariant-loop-row : goal.invariant-loop-row
invariant-loop-row l = Passed (unsound_station l.file l.rows) l.row
