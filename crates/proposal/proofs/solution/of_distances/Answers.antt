use Rattle.std.proofs.Common.{◌∙◌}
use Rattle.proposal.proofs.Cases.{ready, judged_as}
use Rattle.proposal.proofs.solution.of_distances.Goals as goal

pub judge_system-requires : goal.judge_system-requires
judge_system-requires c =
    ready _ _ _ _ _ _ c.requires c.in_system-supply.ensures c.offsets-offset.ensures

pub returns : goal.returns
returns c = c.judge_system.ensures ∙ judged_as _ _ _ _ _ _ c.requires c.in_system-supply.ensures c.offsets-offset.ensures
