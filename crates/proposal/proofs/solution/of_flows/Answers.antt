use Rattle.std.proofs.Common.{◌∙◌}
use Rattle.proposal.proofs.Cases.{no_offsets, ready, judged_as}
use Rattle.proposal.proofs.solution.of_flows.Goals as goal

pub judge_system-requires : goal.judge_system-requires
judge_system-requires c =
    ready _ _ _ _ _ _ c.requires c.in_system-supply.ensures (no_offsets c.args.background c.args.k.now)

pub returns : goal.returns
returns c = c.judge_system.ensures ∙ judged_as _ _ _ _ _ _ c.requires c.in_system-supply.ensures (no_offsets c.args.background c.args.k.now)
