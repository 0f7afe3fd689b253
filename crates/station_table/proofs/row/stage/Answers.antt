use native.Mathlib.Omega.{arith}
use Rattle.meaning.proofs.First.{first_lowest}
use Rattle.station_table.proofs.StationLaws.{station_unsound, station_repeated, stations_sound}
use Rattle.station_table.proofs.row.stage.Goals as goal
use Rattle.station_table.proofs.row.stage.Goals.{in_default-via-in-Some+else-row-repeated, in_default-via-in_default}

pub returns-in-Some : goal.returns-in-Some
returns-in-Some c = station_unsound _ c.requires c.in-Some.ensures.1 (first_lowest c.repeated-repeated.ensures) (omega arith)

pub returns-in_default : goal.returns-in_default
returns-in_default c =
    let seen = first_lowest c.repeated-repeated.ensures in
    elim c.in_default.branch [
      | in_default-via-in-Some+else-row-repeated w ↦ station_repeated _ c.requires w.in-Some.ensures.1 seen (omega arith) (omega arith)
      | in_default-via-in_default w ↦ station_repeated _ c.requires w.in_default.ensures seen seen.within (omega arith)
    ]

pub returns-in_default-2 : goal.returns-in_default-2
returns-in_default-2 c =
    let seen = first_lowest c.repeated-repeated.ensures in
    elim c.in_default.branch [
      | in_default-via-in-Some+else-row-repeated w ↦ stations_sound _ c.requires w.in-Some.ensures.1 seen (omega arith) (omega arith)
      | in_default-via-in_default w ↦ stations_sound _ c.requires w.in_default.ensures seen seen.within (omega arith)
    ]
