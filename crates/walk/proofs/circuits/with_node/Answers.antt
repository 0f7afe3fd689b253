use native.Mathlib.Omega.{arith}
use Rattle.bits.proofs.Sets.{with_within, with_none}
use Rattle.walk.proofs.circuits.with_node.Goals as goal

pub returns-then-v-n : goal.returns-then-v-n
returns-then-v-n c = let a = c.args in with_within a.set c.with.result a.v 256 a.n (omega arith) (omega arith) c.with.ensures

pub returns : goal.returns
returns c = let a = c.args in with_none a.set a.v a.n (omega arith)
