use Rattle.std.proofs.Common.{rules}
use mathlib.Core.Path.{◌∙◌}
use Rattle.zone_kw.proofs.LoadLaws.{shared_rows}
use Rattle.meaning.proofs.Made.{mapped_rows}
use Rattle.zone_kw.proofs.shared_kw.Goals as goal

pub returns : goal.returns
returns c = let a = c.args in mapped_rows 0 _ c.map.ensures.items (λ i p q y h k. search rules) ∙ shared_rows a.nodes a.zone a.by_type a.factors c.thousandths.ensures
