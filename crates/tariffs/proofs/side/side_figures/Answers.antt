use mathlib.Core.Path.{◌≡◌, sym, subst}
use Prim.Native.Nat.{◌≤◌, ◌<◌}
use native.Mathlib.Omega.{arith}
use lib.IntN.{pos, nat_abs}
use mir.Syntax.{w64}
use mir.Val.{to_z}
use Rattle.integers.proofs.Core.{Z}
use Rattle.integers.proofs.Laws.{sfits_abs}
use Rattle.integers.proofs.Machine.{Back, fit_back, of_nat}
use Rattle.meaning.specs.declared.WiderFigures.{WiderFigures}
use Rattle.tariffs.specs.declared.priced.Priced.{Priced as PricedLines}
use Rattle.tariffs.specs.Sides.{MetresFit, LinesFit}
use Rattle.tariffs.proofs.Laws.{own_fit, not_shared_fit, lines_fit, told_parts_fit, priced, told_residual_near, told_remainder_near, side_from_lem}
use Rattle.tariffs.proofs.side.side_figures.Goals as goal

pub wider_lines-own-requires : goal.wider_lines-own-requires
wider_lines-own-requires c =
    let parts_fit = told_parts_fit c.args.shares.now c.args.year_round.now.zonal.now c.zone_metres.ensures c.split_metres-parts.ensures in
    let p = c.requires in
    (rw c.not_shared.ensures (not_shared_fit _ parts_fit), p.year_round.few, p.terms)

pub wider_lines-at_peak-requires : goal.wider_lines-at_peak-requires
wider_lines-at_peak-requires c =
    let p = c.requires in
    (rw c.zone_metres-metres.ensures (own_fit c.args.peak.now.zonal.now.sums p.peak.all), p.peak.few, p.peak_terms)

pub shared_lines-shared-requires : goal.shared_lines-shared-requires
shared_lines-shared-requires c =
    let parts_fit = told_parts_fit c.args.shares.now c.args.year_round.now.zonal.now c.zone_metres.ensures c.split_metres-parts.ensures in
    let p = c.requires in
    (parts_fit, omega (arith, c.shared_zones-with_shared.ensures.few, p.year_round.few), p.terms)

pub overflow_cast-result : goal.overflow_cast-result
overflow_cast-result c =
    let a = c.args in
    let told = priced a.shares.now a.year_round.now.zonal.now a.peak.now.zonal.now a.year_round.now.terms a.peak.now.terms a.rest a.payers.0 c.zone_metres.ensures c.split_metres-parts.ensures c.not_shared.ensures c.wider_lines-own.ensures c.zone_metres-metres.ensures c.wider_lines-at_peak.ensures c.shared_zones-with_shared.ensures.zones c.shared_lines-shared.ensures in
    simp Z (omega (arith, told_remainder_near _ _ _ _ _ _ _ told.2 c.requires))

pub zone_lines-requires : goal.zone_lines-requires
zone_lines-requires c =
    let a = c.args in
    let parts_fit = told_parts_fit a.shares.now a.year_round.now.zonal.now c.zone_metres.ensures c.split_metres-parts.ensures in
    let own-fits : MetresFit c.not_shared.result = rw c.not_shared.ensures (not_shared_fit _ parts_fit) in
    let peak-fits : MetresFit c.zone_metres-metres.result = rw c.zone_metres-metres.ensures (own_fit a.peak.now.zonal.now.sums c.requires.peak.all) in
    let told = priced a.shares.now a.year_round.now.zonal.now a.peak.now.zonal.now a.year_round.now.terms a.peak.now.terms a.rest a.payers.0 c.zone_metres.ensures c.split_metres-parts.ensures c.not_shared.ensures c.wider_lines-own.ensures c.zone_metres-metres.ensures c.wider_lines-at_peak.ensures c.shared_zones-with_shared.ensures.zones c.shared_lines-shared.ensures in
    let each_near : nat_abs c.shared_lines-shared.result.rest.each ≤ 9000000000000000000 = told_residual_near _ _ _ _ _ _ _ told.2 c.requires in
    let be : Back c.shared_lines-shared.result.rest.each = fit_back (sfits_abs _ (omega (arith, each_near))) in
    let p = c.requires in (
      p.year_round.few,
      subst (λ (x : PricedLines WiderFigures 32). LinesFit x.lines) (sym c.wider_lines-own.ensures) (lines_fit own-fits p.year_round p.terms a.rest),
      subst (λ (x : PricedLines WiderFigures 32). LinesFit x.lines) (sym c.wider_lines-at_peak.ensures) (lines_fit peak-fits p.peak p.peak_terms c.wider_lines-own.result.rest),
      simp be each_near,
    )

pub returns : goal.returns
returns c =
    let a = c.args in
    let told = priced a.shares.now a.year_round.now.zonal.now a.peak.now.zonal.now a.year_round.now.terms a.peak.now.terms a.rest a.payers.0 c.zone_metres.ensures c.split_metres-parts.ensures c.not_shared.ensures c.wider_lines-own.ensures c.zone_metres-metres.ensures c.wider_lines-at_peak.ensures c.shared_zones-with_shared.ensures.zones c.shared_lines-shared.ensures in
    let each_near : nat_abs c.shared_lines-shared.result.rest.each ≤ 9000000000000000000 = told_residual_near _ _ _ _ _ _ _ told.2 c.requires in
    let over_near : c.shared_lines-shared.result.rest.over < 100000000 = told_remainder_near _ _ _ _ _ _ _ told.2 c.requires in
    let be : Back c.shared_lines-shared.result.rest.each = fit_back (sfits_abs _ (omega (arith, each_near))) in
    let bo : to_z w64 c.shared_lines-shared.result.rest.over ≡ pos c.shared_lines-shared.result.rest.over = of_nat _ (omega (arith, over_near)) in
    side_from_lem a.shares.now a.year_round.now.zonal.now a.peak.now.zonal.now a.year_round.now.terms a.peak.now.terms a.rest a.payers.0 a.edition told.0 told.1 told.2 c.form_in.ensures be bo c.zone_lines.ensures
