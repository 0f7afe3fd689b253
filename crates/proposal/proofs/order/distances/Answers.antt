-- `proposal::order::distances` meets its contract: each stage is judged where those before it pass.
use Rattle.std.proofs.Common.{◌∙◌}
use Rattle.meaning.specs.declared.Background.TheVariants.{YearRound, Peak}
use Rattle.meaning.specs.declared.System.TheVariants.{Wider, Local}
use Rattle.meaning.proofs.Answers.{refuses, stops_first, passes-first}
use Rattle.proposal.proofs.Told.{of_peak}
use Rattle.proposal.proofs.order.distances.Goals as goal

pub of_distances-requires : goal.of_distances-requires
of_distances-requires c = c.requires (Wider YearRound) tt

pub of_peak_distances-requires : goal.of_peak_distances-requires
of_peak_distances-requires c = λ e. c.requires (Wider Peak) (of_peak e)

pub of_distances-requires-2 : goal.of_distances-requires-2
of_distances-requires-2 c = c.requires Local tt

pub returns-in_err-of_distances : goal.returns-in_err-of_distances
returns-in_err-of_distances c = refuses c.from_residual.ensures ∙ stops_first _ c.of_distances.ensures c.in_err-of_distances.was

pub returns-in_err-of_peak_distances : goal.returns-in_err-of_peak_distances
returns-in_err-of_peak_distances c =
    passes-first _ c.of_distances.ensures c.in_ok-of_distances.was
    (refuses c.from_residual-in_err-of_peak_distances.ensures ∙ stops_first _ c.of_peak_distances.ensures c.in_err-of_peak_distances.was)

pub returns : goal.returns
returns c =
    passes-first _ c.of_distances.ensures c.in_ok-of_distances.was
    (passes-first _ c.of_peak_distances.ensures c.in_ok-of_peak_distances.was c.of_distances-2.ensures)
