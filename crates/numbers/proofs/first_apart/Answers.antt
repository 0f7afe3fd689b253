use lib.IntN.{pos}
use Rattle.std.proofs.Common.{get_or, rules, tests}
use Rattle.numbers.specs.Numbers.{even_in}
use Rattle.numbers.proofs.Equal.{same_yes, same_no}
use Rattle.numbers.proofs.Found.{row_first}
use Rattle.numbers.proofs.first_apart.Goals as goal

pub returns : goal.returns
returns c =
    let found = c.first_failing.ensures in
    row_first (even_in c.args.a c.args.b) 256 found.within
    (λ j h. let p = found.before j h in same_yes (get_or c.args.a j (pos 0)) (get_or c.args.b j (pos 0)) (search (rules, tests)))
    (λ h. let p = found.here h in same_no (get_or c.args.a c.first_failing.result (pos 0)) (get_or c.args.b c.first_failing.result (pos 0)) (search (rules, tests)))
