use borrow.Author.Rules.{rules}
use mathlib.Core.Path.{◌≡◌, refl, ap, ◌∙◌}
use Rattle.meaning.specs.declared.MicroPerKw.{MicroPerKw}
use Rattle.meaning.specs.declared.WiderFigures.{WiderFigures}
use Rattle.meaning.specs.Columns.{metres_at}
use Rattle.tariffs.specs.Sides.{pays_in, tariff_from, wider_from, wider_over}
use Rattle.tariffs.proofs.wider.wider_lines.Goals as goal

pub returns : goal.returns
unfolding wider_over wider_from
returns c =
    let a = c.args in
    let t = a.zoned.now.terms in
    let made = c.price_places.ensures (λ k. wider_from t (metres_at a.metres.now k)) (λ k. tariff_from t (metres_at a.metres.now k)) (pays_in a.zoned.now.zonal.now.sums) (record {
      line_is = λ k y l post. search rules;
      tariff_is = λ k y l post.
          let is : y.line ≡ wider_from t (metres_at a.metres.now k) = search rules in
          let same : y.tariff ≡ y.line.tariff = search rules in
          ap (λ (p : MicroPerKw). p.0) same ∙ ap (λ (w : WiderFigures). w.tariff.0) is;
      kw_is = λ k y l post. search rules;
    }) in
    rw (made.0, made.1, c.no_wider.ensures) refl
