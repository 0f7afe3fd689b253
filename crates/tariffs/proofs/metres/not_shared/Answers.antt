use borrow.Author.Rules.{rules}
use lib.IntN.{pos}
use Rattle.meaning.specs.Columns.{distance}
use Rattle.tariffs.specs.Sides.{no_parts, parts_in, not_shared_over}
use Rattle.tariffs.proofs.Mapped.{mapped_column}
use Rattle.tariffs.proofs.metres.not_shared.Goals as goal

pub returns : goal.returns
unfolding not_shared_over
returns c =
    mapped_column (distance (pos 0)) no_parts (λ k. (parts_in c.args.parts.now k).not_shared) c.map.ensures.items (λ i p q y l post. search rules)
