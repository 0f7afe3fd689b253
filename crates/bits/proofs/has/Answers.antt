use mathlib.Core.Path.{◌∙◌, sym}
use native.Mathlib.Omega.{arith}
use borrow.Author.Tests.{le-ltb}
use Rattle.bits.proofs.Sets.{own_word, has_past}
use Rattle.bits.proofs.has.Goals as goal

pub returns-then-n-lt256 : goal.returns-then-n-lt256
returns-then-n-lt256 c = c.in_word.ensures ∙ own_word c.args.set c.args.n

pub returns-else-n-lt256 : goal.returns-else-n-lt256
returns-else-n-lt256 c = simp (le-ltb c.args.n 256 (omega arith)) (sym (has_past c.args.set c.args.n (omega arith)))
