use borrow.Author.Rules.{rules}
use mathlib.Core.Path.{refl}
use Rattle.meaning.specs.Charging.{tariff}
use Rattle.meaning.specs.Columns.{kw_at}
use Rattle.meaning.specs.Proposal.{potential}
use Rattle.tariffs.specs.Case.{local_from, node_from, local_of}
use Rattle.tariffs.proofs.nodes.local_figures.Goals as goal

pub returns : goal.returns
unfolding local_of node_from
returns c =
    let a = c.args in
    let made = c.price_places.ensures (λ v. node_from (kw_at a.tec.now v) (potential a.local.now v) a.constant a.factor) (λ v. tariff (local_from (potential a.local.now v)) a.constant a.factor) (kw_at a.paying.now) (record {
      line_is = λ k y l post. search rules;
      tariff_is = λ k y l post. search rules;
      kw_is = λ k y l post. search rules;
    }) in
    rw (made.0, made.1, c.no_local.ensures) refl
