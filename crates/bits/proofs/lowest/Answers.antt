use mathlib.Core.Path.{◌≡◌, sym}
use native.Mathlib.Omega.{arith}
use Rattle.bits.proofs.Sets.{none_more, lowest_here, lowest_none}
use Rattle.bits.proofs.lowest.Goals as goal

pub loop-i-init : goal.loop-i-init
loop-i-init c = record { none = λ m h. absurd (omega arith) }

pub returns-then-word-ne0 : goal.returns-then-word-ne0
returns-then-word-ne0 c = lowest_here (omega arith) c.loop-i.invariant c.trailing.ensures

pub loop-i-preserved : goal.loop-i-preserved
loop-i-preserved c = none_more c.loop-i.invariant c.if-word-ne0.false

pub returns : goal.returns
returns c = let e : c.loop-i.i ≡ 4 = omega arith in lowest_none (rw (sym e) c.loop-i.invariant)
