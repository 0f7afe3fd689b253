use mathlib.Core.Path.{◌≡◌}
use Prim.Native.Nat.{ℕ, ◌+◌}
use native.Mathlib.Omega.{arith}
use lib.IntN.{pos, ◌-ℤ◌, ◌*ℤ◌}
use mir.Syntax.{w64}
use mir.Val.{SFits, to_z}
use Rattle.integers.proofs.Machine.{Back, fit_back, of_nat}
use Rattle.supply.proofs.Bounds.{net_fits, supply_fits}
use Rattle.supply.proofs.nodes.net_supply.Goals as goal
use Rattle.supply.proofs.nodes.net_supply.Goals.{Start}

module _ (s : Start) where
  abbrev a : ℕ
  a = s.args.fixed.0 + s.args.scaled.0

  abbrev d : ℕ
  d = s.args.demand.0

  ba : to_z w64 a ≡ pos a
  ba = of_nat _ (omega arith)

  bd : to_z w64 d ≡ pos d
  bd = of_nat _ (omega arith)

  net : SFits w64 (pos a -ℤ pos d)
  net = net_fits a d (omega arith) (omega arith)

  supplied : SFits w64 (pos 1000000 *ℤ (pos a -ℤ pos d))
  supplied = supply_fits a d (omega arith) (omega arith)

  bn : Back (pos a -ℤ pos d)
  bn = fit_back net

  bs : Back (pos 1000000 *ℤ (pos a -ℤ pos d))
  bs = fit_back supplied

pub overflow_sub-result : goal.overflow_sub-result
overflow_sub-result c = let s = c.before.before.before in simp (ba s, bd s) (net s)

pub overflow_mul-result : goal.overflow_mul-result
overflow_mul-result c = let s = c.before.before.before in simp (ba s, bd s, bn s) (supplied s)

pub returns : goal.returns
returns c = let s = c.before.before.before in simp (ba s, bd s, bn s, bs s)
