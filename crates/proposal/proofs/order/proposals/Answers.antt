-- `proposal::order::proposals` meets its contract: each stage is judged where those before it pass, in the order of the edition. A base system has the offset 0 whatever the headings.
use Rattle.std.proofs.Common.{◌∙◌}
use Rattle.meaning.specs.declared.Background.TheVariants.{YearRound, Peak}
use Rattle.meaning.specs.declared.System.TheVariants.{Base}
use Rattle.meaning.proofs.Answers.{refuses, stops_first, passes-first}
use Rattle.flows.specs.Flows.{offset_in}
use Rattle.proposal.proofs.Told.{one_by_one, of_peak}
use Rattle.proposal.proofs.order.proposals.Goals as goal

pub of_flows-requires : goal.of_flows-requires
of_flows-requires c = c.requires (Base YearRound) tt

pub of_peak_flows-requires : goal.of_peak_flows-requires
of_peak_flows-requires c = λ e. c.requires (Base Peak) (of_peak e)

pub returns-in_err-of_flows : goal.returns-in_err-of_flows
unfolding offset_in
returns-in_err-of_flows c = refuses c.from_residual.ensures ∙ stops_first _ c.of_flows.ensures c.in_err-of_flows.was ∙ one_by_one _ _ _ _

pub returns-in_err-of_peak_flows : goal.returns-in_err-of_peak_flows
unfolding offset_in
returns-in_err-of_peak_flows c =
    passes-first _ c.of_flows.ensures c.in_ok-of_flows.was
    (refuses c.from_residual-in_err-of_peak_flows.ensures ∙ stops_first _ c.of_peak_flows.ensures c.in_err-of_peak_flows.was)
    ∙ one_by_one _ _ _ _

pub returns-in_err-backgrounds : goal.returns-in_err-backgrounds
unfolding offset_in
returns-in_err-backgrounds c =
    let backgrounds = rw c.headings-headings.ensures at c.backgrounds.ensures in
    passes-first _ c.of_flows.ensures c.in_ok-of_flows.was
    (passes-first _ c.of_peak_flows.ensures c.in_ok-of_peak_flows.was
    (refuses c.from_residual-in_err-backgrounds.ensures ∙ stops_first _ backgrounds c.in_err-backgrounds.was))
    ∙ one_by_one _ _ _ _

pub returns-in_err-directions : goal.returns-in_err-directions
unfolding offset_in
returns-in_err-directions c =
    let backgrounds = rw c.headings-headings.ensures at c.backgrounds.ensures in
    let directions = rw c.headings-headings.ensures at c.directions.ensures in
    passes-first _ c.of_flows.ensures c.in_ok-of_flows.was
    (passes-first _ c.of_peak_flows.ensures c.in_ok-of_peak_flows.was
    (passes-first _ backgrounds c.in_ok-backgrounds.was
    (refuses c.from_residual-in_err-directions.ensures ∙ stops_first _ directions c.in_err-directions.was)))
    ∙ one_by_one _ _ _ _

pub returns : goal.returns
unfolding offset_in
returns c =
    let backgrounds = rw c.headings-headings.ensures at c.backgrounds.ensures in
    let directions = rw c.headings-headings.ensures at c.directions.ensures in
    let lengths = rw c.headings-headings.ensures at c.distances.ensures in
    passes-first _ c.of_flows.ensures c.in_ok-of_flows.was
    (passes-first _ c.of_peak_flows.ensures c.in_ok-of_peak_flows.was
    (passes-first _ backgrounds c.in_ok-backgrounds.was (passes-first _ directions c.in_ok-directions.was lengths)))
    ∙ one_by_one _ _ _ _
