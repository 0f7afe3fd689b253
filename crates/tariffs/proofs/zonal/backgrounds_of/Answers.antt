use mathlib.Core.Path.{◌≡◌, refl}
use Rattle.tariffs.specs.declared.zonal.Zonal.{Zonal}
use Rattle.tariffs.specs.declared.zonal.Sides.{Sides}
use Rattle.tariffs.proofs.CaseLaws.{peak_few}
use Rattle.tariffs.proofs.zonal.backgrounds_of.Goals as goal

sides_are : {s : Sides} {g d : Zonal} → s.generation ≡ g → s.demand ≡ d → s ≡ record { generation = g; demand = d }
sides_are eg ed = rw (← eg, ← ed) refl

pub sides_of-requires-2 : goal.sides_of-requires-2
sides_of-requires-2 c =
    let e = c.args.settings.edition in
    (peak_few e c.at_peak.ensures c.requires.0.generation_zones, peak_few e c.at_peak-2.ensures c.requires.0.demand_zones)

pub returns : goal.returns
returns c =
    let y = c.sides_of.ensures in
    let p = c.sides_of-2.ensures in
    rw (sides_are y.generation y.demand, sides_are p.generation p.demand, c.requires.1, c.at_peak.ensures, c.at_peak-2.ensures, c.at_peak-3.ensures)
