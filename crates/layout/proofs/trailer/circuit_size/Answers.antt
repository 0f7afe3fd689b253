use mathlib.Core.Path.{sym, ap}
use native.Mathlib.Omega.{arith}
use borrow.Author.Tests.{ne_eqb}
use Rattle.meaning.specs.File.{circuit_size}
use Rattle.layout.proofs.trailer.circuit_size.Goals as goal

pub returns-in-2 : goal.returns-in-2
unfolding circuit_size
returns-in-2 c = sym (ap circuit_size c.in-2.is)

pub returns-in_default : goal.returns-in_default
unfolding circuit_size
returns-in_default c = simp (ne_eqb c.args.version 2 (λ e. omega arith))
