use Rattle.std.proofs.Common.{rules, length}
use Rattle.meaning.specs.Proposal.{number_in_range}
use Rattle.numbers.specs.Numbers.{pinned}
use Rattle.numbers.proofs.Found.{row_first}
use Rattle.numbers.proofs.first_out_of_range.Goals as goal

pub returns : goal.returns
returns c =
    let found = c.first_failing.ensures in
    row_first (number_in_range (pinned c.args.n c.args.reference) c.args.limit c.args.run.now) (length c.args.run.now) found.within (λ j h. let p = found.before j h in search rules) (λ h. let p = found.here h in search rules)
