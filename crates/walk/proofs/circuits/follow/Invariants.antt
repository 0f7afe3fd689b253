use mathlib.Core.List.{[]}
use mathlib.Core.Path.{◌≡◌}
use Prim.Native.Nat.{ℕ, ◌-◌, ◌<◌}
use Rattle.std.proofs.Common.{Some, unwrap_or}
use Rattle.meaning.specs.Columns.{network_in}
use Rattle.walk.proofs.Following.{Following}
use Rattle.walk.proofs.circuits.follow.Given as goal

abbrev pub invariant-loop-next : goal.invariant-loop-next
invariant-loop-next l = Following (network_in l.n l.m 0 l.first l.second []) l.visited l.w l.m (unwrap_or l.next l.m) l.initial.wider l.wider × ((c : ℕ) → l.next ≡ Some c → c < l.m)

abbrev pub decreases-loop-next : goal.decreases-loop-next
decreases-loop-next l = l.m - unwrap_or l.next l.m
