use Rattle.std.proofs.Common.{rules, refl}
use Rattle.meaning.specs.Direction.{is_doubtful}
use Rattle.numbers.specs.Numbers.{decided_in}
use Rattle.numbers.proofs.decided.Goals as goal

pub returns-then-length-eq0 : goal.returns-then-length-eq0
unfolding decided_in
returns-then-length-eq0 c = rw c.if-length-eq0.true refl

pub returns-in-For : goal.returns-in-For
unfolding decided_in is_doubtful
returns-in-For c = search rules

pub returns-in_default : goal.returns-in_default
unfolding decided_in is_doubtful
returns-in_default c = search rules
