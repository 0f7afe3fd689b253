use Rattle.std.proofs.Common.{ℕ, ◌<◌, true}
use Rattle.numbers.proofs.first_failing.Given as goal

abbrev pub invariant-loop-i : goal.invariant-loop-i
invariant-loop-i g l = (i : ℕ) → i < l.i → goal.F-post g l.passes i true
