use mathlib.Core.Path.{◌≡◌}
use native.Mathlib.Omega.{arith}
use Rattle.plants.specs.Counted.{part_of}
use Rattle.station_table.specs.Tec.{possible_kw}
use Rattle.station_table.proofs.TecLaws.{cell_low}
use Rattle.station_table.proofs.tec.part.Goals as goal

pub returns : goal.returns
returns c =
    let a = c.args in
    let e : c.part.result.0 ≡ part_of a.counted a.plant (possible_kw a.tec.0) = rw (← c.possible.ensures) c.part.ensures in
    record { value = e; low = omega (arith, e, cell_low a.counted a.plant a.tec.0) }
