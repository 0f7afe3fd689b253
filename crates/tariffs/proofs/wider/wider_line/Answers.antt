use mathlib.Core.Path.{ap}
use Rattle.meaning.specs.Columns.{distance, price}
use Rattle.tariffs.specs.Sides.{tariff_from, wider_from}
use Rattle.tariffs.proofs.Laws.{priceable}
use Rattle.tariffs.proofs.wider.wider_line.Goals as goal

pub price-requires : goal.price-requires
price-requires c = rw c.after_c-after_c.ensures (priceable c.args.terms c.requires.1 c.args.metres.0 c.requires.0)

pub returns : goal.returns
unfolding wider_from tariff_from
returns c =
    let after = c.after_c-after_c.ensures in
    rw (ap price (rw after at c.price.ensures), ap distance after)
