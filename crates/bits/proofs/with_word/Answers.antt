use native.Mathlib.Omega.{arith}
use Rattle.bits.proofs.Sets.{with_word_has, with_word_none}
use Rattle.bits.proofs.with_word.Goals as goal

pub returns-then-w-lt4 : goal.returns-then-w-lt4
returns-then-w-lt4 c = let a = c.args in with_word_has a.set a.w a.word (omega arith) (omega arith)

pub returns-else-w-lt4 : goal.returns-else-w-lt4
returns-else-w-lt4 c = let a = c.args in with_word_none a.set a.w a.word (omega arith)
