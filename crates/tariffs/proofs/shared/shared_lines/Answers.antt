use borrow.Author.Rules.{rules}
use mathlib.Core.Path.{◌≡◌, refl, ap, ◌∙◌}
use Rattle.meaning.specs.declared.MicroPerKw.{MicroPerKw}
use Rattle.meaning.specs.declared.SharedFigures.{SharedFigures}
use Rattle.meaning.specs.Columns.{kw_at}
use Rattle.tariffs.specs.Sides.{parts_in, shared_tariff_from, shared_from, shared_over}
use Rattle.tariffs.proofs.shared.shared_lines.Goals as goal

pub returns : goal.returns
unfolding shared_over shared_from
returns c =
    let a = c.args in
    let t = a.terms in
    let made = c.price_places.ensures (λ k. shared_from t (parts_in a.parts.now k).shared.0) (λ k. shared_tariff_from t (parts_in a.parts.now k).shared.0) (kw_at a.kw.now) (record {
      line_is = λ k y l post. search rules;
      tariff_is = λ k y l post.
          let is : y.line ≡ shared_from t (parts_in a.parts.now k).shared.0 = search rules in
          let same : y.tariff ≡ y.line.tariff = search rules in
          ap (λ (p : MicroPerKw). p.0) same ∙ ap (λ (w : SharedFigures). w.tariff.0) is;
      kw_is = λ k y l post. search rules;
    }) in
    rw (made.0, made.1, c.no_shared.ensures) refl
