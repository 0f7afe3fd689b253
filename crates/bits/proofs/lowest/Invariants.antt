use Rattle.bits.proofs.Sets.{NoneIn}
use Rattle.bits.proofs.lowest.Given as goal

abbrev pub invariant-loop-i : goal.invariant-loop-i
invariant-loop-i l = NoneIn l.word-items l.i
