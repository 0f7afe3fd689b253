use Rattle.tariffs.proofs.Laws.{sums_fit}
use Rattle.tariffs.proofs.zonal.side_of.Goals as goal

pub over_zones-requires : goal.over_zones-requires
over_zones-requires c =
    let of = c.args.of.now in
    (rw c.sums_by_zone-sums.ensures (sums_fit c.args.side c.args.nodes of.zone.now of.weight.now of.paying.now c.args.wider.now), c.requires)
