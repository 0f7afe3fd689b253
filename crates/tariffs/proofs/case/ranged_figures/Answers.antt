use mathlib.Core.Path.{sym, ◌∙◌, ap₂}
use mathlib.Core.Bool.{◌&&◌}
use Rattle.meaning.specs.declared.Background.TheVariants.{YearRound}
use Rattle.meaning.specs.declared.Side.TheVariants.{Generation}
use Rattle.tariffs.proofs.CaseLaws.{no_totals, ranged, case_fits}
use Rattle.tariffs.proofs.case.ranged_figures.Goals as goal

pub shares_fit-shared-requires : goal.shares_fit-shared-requires
shares_fit-shared-requires c = c.requires.0.few YearRound Generation

pub figures_from-requires : goal.figures_from-requires
figures_from-requires c =
    let a = c.args in
    -- the totals, as they were tested
    let as_tested = ap₂ ◌&&◌ (ap₂ ◌&&◌ (sym c.totals_fit-generation.ensures) (sym c.totals_fit-served.ensures)) (sym c.shares_fit-shared.ensures) in
    let p = c.requires in
    case_fits a.settings a.sides.now a.nodes a.tec.now a.paying.now a.demand.now a.local.now a.shares.now c.total-payers.ensures c.total-load.ensures (as_tested ∙ c.if-generation-served.true) p.0 p.1 p.2

pub returns-then-generation-served : goal.returns-then-generation-served
returns-then-generation-served c =
    let a = c.args in
    -- the totals, as they were tested
    let as_tested = ap₂ ◌&&◌ (ap₂ ◌&&◌ (sym c.totals_fit-generation.ensures) (sym c.totals_fit-served.ensures)) (sym c.shares_fit-shared.ensures) in
    c.figures_from.ensures ∙ ranged a.settings a.sides.now a.nodes a.tec.now a.paying.now a.demand.now a.local.now a.shares.now c.total-payers.ensures c.total-load.ensures (as_tested ∙ c.if-generation-served.true)

pub returns : goal.returns
returns c =
    let a = c.args in
    -- the totals, as they were tested
    let as_tested = ap₂ ◌&&◌ (ap₂ ◌&&◌ (sym c.totals_fit-generation.ensures) (sym c.totals_fit-served.ensures)) (sym c.shares_fit-shared.ensures) in
    c.no_figures.ensures ∙ no_totals a.settings a.sides.now a.nodes a.tec.now a.paying.now a.demand.now a.local.now a.shares.now c.total-payers.ensures c.total-load.ensures (as_tested ∙ c.if-generation-served.false)
