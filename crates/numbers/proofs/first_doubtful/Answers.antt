use Rattle.std.proofs.Common.{rules}
use Rattle.numbers.specs.Numbers.{decided_by}
use Rattle.numbers.proofs.Found.{row_first}
use Rattle.numbers.proofs.first_doubtful.Goals as goal

pub returns : goal.returns
returns c =
    let found = c.first_failing.ensures in
    row_first (decided_by c.args.lengths.now c.args.headings) 512 found.within (λ j h. let p = found.before j h in search rules) (λ h. let p = found.here h in search rules)
