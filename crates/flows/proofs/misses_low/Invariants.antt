use mathlib.Core.Path.{◌≡◌}
use Prim.Native.Nat.{◌≤◌}
use Rattle.integers.specs.Numbers.{sum}
use Rattle.flows.specs.Flows.{net_of}
use Rattle.flows.specs.Turns.{size_at}
use Rattle.flows.proofs.misses_low.Given as goal

abbrev pub invariant-loop-c : goal.invariant-loop-c
invariant-loop-c l = (l.total ≤ 100000000) × (l.total ≡ sum l.c (size_at (net_of l.n 0 l.first l.second l.x l.run) l.offset l.run))
