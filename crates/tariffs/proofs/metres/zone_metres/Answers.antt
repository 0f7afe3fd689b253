use borrow.Author.Rules.{rules}
use mathlib.Core.Path.{◌≡◌, ap}
use lib.IntN.{pos}
use Rattle.meaning.specs.Columns.{distance}
use Rattle.zones.specs.Sums.{no_sums}
use Rattle.tariffs.specs.Sides.{metres_from, sums_in, metres_over}
use Rattle.tariffs.proofs.Mapped.{mapped_column}
use Rattle.tariffs.proofs.metres.zone_metres.Goals as goal

pub returns : goal.returns
unfolding metres_over
returns c =
    let sums = c.args.sums.now in
    mapped_column (distance (pos 0)) no_sums (λ k. distance (metres_from (sums_in sums k))) c.map.ensures.items (λ i p q y l post.
    let is : y.0 ≡ metres_from (sums_in sums i) = search rules in ap distance is)
