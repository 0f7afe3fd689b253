use Rattle.walk.specs.Walk.{ends_in}
use Rattle.walk.proofs.Following.{Sought}
use Rattle.walk.proofs.circuits.next_at.Given as goal

abbrev pub invariant-loop-c : goal.invariant-loop-c
invariant-loop-c l = Sought (ends_in l.first l.second l.w l.word) l.from l.m l.c
