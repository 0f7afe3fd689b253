use mathlib.Core.Path.{◌≡◌, ap}
use Rattle.integers.proofs.Machine.{fit_back}
use Rattle.meaning.specs.Columns.{distance, price}
use Rattle.tariffs.specs.Case.{local_from, node_from}
use Rattle.tariffs.proofs.Laws.{local_priceable}
use Rattle.tariffs.proofs.nodes.node_line.Goals as goal
use Rattle.tariffs.proofs.nodes.node_line.Goals.{After-local_metres-metres}

-- the node's metres
rounded : (c : After-local_metres-metres) → c.local_metres-metres.result.0 ≡ local_from c.args.potential
rounded c = simp (fit_back c.ranges.potential) at c.local_metres-metres.ensures

pub price-requires : goal.price-requires
price-requires c = rw (rounded c) (local_priceable c.args.potential c.requires.0 c.requires.1)

pub returns : goal.returns
unfolding node_from
returns c =
    let m = ap distance (rounded c.before) in
    let t = ap price c.price.ensures in
    rw (t, m)
