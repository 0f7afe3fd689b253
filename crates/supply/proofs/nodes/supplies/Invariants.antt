use mathlib.Core.Path.{◌≡◌}
use Prim.Native.Nat.{◌+◌}
use lib.IntN.{pos}
use Rattle.meaning.specs.Columns.{kw_at, column}
use Rattle.supply.specs.Supply.{net_supply}
use Rattle.supply.proofs.nodes.supplies.Given as goal

abbrev pub invariant-loop-v : goal.invariant-loop-v
invariant-loop-v l = l.supply ≡ column (pos 0) 256 l.v (λ i. net_supply (kw_at l.fixed i + kw_at l.scaled i) (kw_at l.demand i))
