use Rattle.meaning.specs.declared.Background.TheVariants.{YearRound, Peak}
use Rattle.meaning.specs.declared.Side.TheVariants.{Generation, Demand}
use Rattle.tariffs.proofs.CaseLaws.{ready, c_made, generation_left, lines_are, demand_left, side_fits, made_by, case_made}
use Rattle.tariffs.proofs.case.figures_from.Goals as goal

pub c_of-c-requires : goal.c_of-c-requires
c_of-c-requires c =
    let a = c.args in
    let r = ready a.settings a.sides.now a.payers a.load a.nodes a.tec.now a.paying.now a.local.now a.shares.now c.requires YearRound in
    (c.requires.sides.settings.p, r Generation, r Demand)

pub c_of-peak_c-requires : goal.c_of-peak_c-requires
c_of-peak_c-requires c =
    let a = c.args in
    let r = ready a.settings a.sides.now a.payers a.load a.nodes a.tec.now a.paying.now a.local.now a.shares.now c.requires Peak in
    (c.requires.sides.settings.p, r Generation, r Demand)

pub side_of-requires : goal.side_of-requires
side_of-requires c =
    let a = c.args in
    let f = c.requires in
    let ec = c_made a.settings a.sides.now a.payers a.load a.nodes a.tec.now a.paying.now a.local.now a.shares.now f YearRound c.c_of-c.ensures in
    let ep = c_made a.settings a.sides.now a.payers a.load a.nodes a.tec.now a.paying.now a.local.now a.shares.now f Peak c.c_of-peak_c.ensures in
    let left = generation_left a.settings a.sides.now a.payers a.load a.nodes a.tec.now a.paying.now a.local.now a.shares.now f c.target_of-g.ensures c.local_figures-nodal.ensures in
    side_fits a.settings a.sides.now a.payers a.load a.nodes a.tec.now a.paying.now a.local.now a.shares.now f Generation ec ep left

pub side_of-requires-2 : goal.side_of-requires-2
side_of-requires-2 c =
    let a = c.args in
    let f = c.requires in
    let ec = c_made a.settings a.sides.now a.payers a.load a.nodes a.tec.now a.paying.now a.local.now a.shares.now f YearRound c.c_of-c.ensures in
    let ep = c_made a.settings a.sides.now a.payers a.load a.nodes a.tec.now a.paying.now a.local.now a.shares.now f Peak c.c_of-peak_c.ensures in
    let demand_rest = demand_left a.settings a.sides.now a.payers a.load a.nodes a.tec.now a.paying.now a.local.now a.shares.now f c.target_of-d.ensures in
    rw c.none-none.ensures (side_fits a.settings a.sides.now a.payers a.load a.nodes a.tec.now a.paying.now a.local.now a.shares.now f Demand ec ep demand_rest)

pub returns : goal.returns
returns c =
    let a = c.args in
    let f = c.requires in
    let ec = c_made a.settings a.sides.now a.payers a.load a.nodes a.tec.now a.paying.now a.local.now a.shares.now f YearRound c.c_of-c.ensures in
    let ep = c_made a.settings a.sides.now a.payers a.load a.nodes a.tec.now a.paying.now a.local.now a.shares.now f Peak c.c_of-peak_c.ensures in
    let left = generation_left a.settings a.sides.now a.payers a.load a.nodes a.tec.now a.paying.now a.local.now a.shares.now f c.target_of-g.ensures c.local_figures-nodal.ensures in
    let demand_rest = demand_left a.settings a.sides.now a.payers a.load a.nodes a.tec.now a.paying.now a.local.now a.shares.now f c.target_of-d.ensures in
    case_made a.settings a.sides.now a.payers a.load a.nodes a.tec.now a.paying.now a.local.now a.shares.now f ec ep
    (made_by a.settings a.sides.now a.payers a.load a.nodes a.tec.now a.paying.now a.local.now a.shares.now f Generation ec ep left c.side_of.ensures)
    (made_by a.settings a.sides.now a.payers a.load a.nodes a.tec.now a.paying.now a.local.now a.shares.now f Demand ec ep demand_rest (rw c.none-none.ensures at c.side_of-2.ensures))
    (lines_are a.settings a.sides.now a.payers a.load a.nodes a.tec.now a.paying.now a.local.now a.shares.now f c.target_of-g.ensures c.local_figures-nodal.ensures)
