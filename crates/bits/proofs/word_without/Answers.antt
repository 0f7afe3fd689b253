use native.Mathlib.Omega.{arith}
use Rattle.bits.proofs.Sets.{word_less, word_past}
use Rattle.bits.proofs.word_without.Goals as goal

pub returns-then-w-lt4 : goal.returns-then-w-lt4
returns-then-w-lt4 c = let a = c.args in word_less a.a a.b a.w c.less.result c.less.ensures

pub returns : goal.returns
returns c = let a = c.args in word_past a.a a.b a.w (omega arith) (omega arith)
