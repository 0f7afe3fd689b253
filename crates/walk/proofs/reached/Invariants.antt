use mathlib.Core.List.{[]}
use Prim.Native.Nat.{◌-◌}
use Rattle.integers.specs.Numbers.{count}
use Rattle.meaning.specs.Columns.{network_in}
use Rattle.bits.specs.Sets.{has}
use Rattle.walk.proofs.Walking.{Walking}
use Rattle.walk.proofs.reached.Given as goal

abbrev pub invariant-loop-visited : goal.invariant-loop-visited
invariant-loop-visited l = Walking (network_in l.n l.m l.reference l.first l.second []) l.reached l.visited

abbrev pub decreases-loop-visited : goal.decreases-loop-visited
decreases-loop-visited l = 256 - count (has l.visited) 256
