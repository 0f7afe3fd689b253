use mathlib.Core.Path.{ap}
use Rattle.meaning.specs.Columns.{price}
use Rattle.tariffs.specs.Sides.{shared_tariff_from, shared_from}
use Rattle.tariffs.proofs.Laws.{shared_priceable}
use Rattle.tariffs.proofs.shared.shared_line.Goals as goal

pub price-requires : goal.price-requires
price-requires c = shared_priceable c.args.terms c.requires.1 c.args.metres.0 c.requires.0

pub returns : goal.returns
unfolding shared_from shared_tariff_from
returns c = let t = ap price c.price.ensures in rw t
