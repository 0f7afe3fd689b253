use Rattle.meaning.specs.Columns.{number_at}
use Rattle.flows.proofs.Net.{Netted, carried_in}
use Rattle.flows.proofs.net_flows.Given as goal

abbrev pub invariant-loop-c : goal.invariant-loop-c
invariant-loop-c l = Netted (number_at l.first) (number_at l.second) (carried_in l.n l.first l.second l.run) l.c l.net
