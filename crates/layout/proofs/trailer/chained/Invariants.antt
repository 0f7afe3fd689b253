use Rattle.layout.proofs.FileLaws.{ChainedTo}
use Rattle.layout.proofs.trailer.chained.Given as goal

abbrev pub invariant-loop-section : goal.invariant-loop-section
invariant-loop-section l = ChainedTo l.file l.section l.follow l.start
