use native.Mathlib.Omega.{arith}
use borrow.Author.Tests.{lt-ltb, le-ltb}
use Rattle.supply.proofs.scaled.with_over.Goals as goal

pub returns-then-before-missing : goal.returns-then-before-missing
returns-then-before-missing c = simp (lt-ltb _ _ c.if-before-missing.true)

pub returns : goal.returns
returns c = simp (le-ltb _ _ c.if-before-missing.false) (omega arith)
