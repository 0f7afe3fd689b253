-- `integers::rounded` meets its contract: the quotient where less than half of d is left, else one more.
use mathlib.Core.Path.{sym}
use Prim.Native.Nat.{◌<◌}
use native.Mathlib.Omega.{arith}
use Rattle.integers.proofs.Half.{rounded_none, rounded_down, rounded_up}
use Rattle.integers.proofs.rounded.Goals as goal
use Rattle.integers.proofs.rounded.Goals.{Else-d-eq0}

some : (c : Else-d-eq0) → 0 < c.args.d
some c = omega arith

pub returns-then-d-eq0 : goal.returns-then-d-eq0
returns-then-d-eq0 c = rw c.if-d-eq0.true (sym (rounded_none _))

pub returns-then-left-d : goal.returns-then-left-d
returns-then-left-d c = sym (rounded_down _ _ (some c.before) c.if-left-d.true)

pub returns-else-left-d : goal.returns-else-left-d
returns-else-left-d c = sym (rounded_up _ _ (some c.before) c.if-left-d.false)
