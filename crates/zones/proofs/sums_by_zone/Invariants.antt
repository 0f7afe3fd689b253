-- The invariant: the sums over the nodes passed.
use mathlib.Core.Path.{◌≡◌}
use Prim.Native.Nat.{suc, ◌≤◌}
use lib.ListN.{length}
use Rattle.meaning.specs.Rows.{rows}
use Rattle.zones.specs.Sums.{sums_to}
use Rattle.zones.proofs.sums_by_zone.Given as goal

abbrev pub invariant-loop-v : goal.invariant-loop-v
invariant-loop-v l = (l.count ≤ 256) × (l.count ≤ length l.wider) × (l.all ≡ rows 32 (λ k. sums_to l.side l.zone l.weight l.paying l.wider l.v (suc k)))
