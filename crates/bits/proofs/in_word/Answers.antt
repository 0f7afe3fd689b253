use Prim.Native.Nat.{ℕ, ◌%◌}
use mathlib.Core.Path.{ap, ◌∙◌}
use lib.Dec.{eqb}
use Rattle.bits.proofs.Bits.{and_one}
use Rattle.bits.proofs.Sets.{in_word_lem, in_other}
use Rattle.bits.proofs.in_word.Goals as goal

pub returns-then-n-w : goal.returns-then-n-w
returns-then-n-w c =
    let a = c.args in
    ap (λ (x : ℕ). eqb x 1) (and_one a.word (a.n % 64)) ∙ in_word_lem a.w a.word a.n c.if-n-w.true

pub returns-else-n-w : goal.returns-else-n-w
returns-else-n-w c = in_other c.args.w c.args.word c.args.n c.if-n-w.false
