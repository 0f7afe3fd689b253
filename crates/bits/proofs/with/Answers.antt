use Prim.Native.Nat.{ℕ, ◌/◌, ◌%◌}
use mathlib.Core.Path.{◌∙◌, ap}
use mathlib.Core.Bool.{◌&&◌, ◌||◌}
use native.Mathlib.Omega.{arith}
use lib.Dec.{ltb}
use Rattle.bits.specs.Sets.{has, in_word}
use Rattle.std.proofs.lemmas.Nat.{one_shl}
use Rattle.bits.proofs.Sets.{one_bit}
use Rattle.bits.proofs.with.Goals as goal

pub returns : goal.returns
returns c m =
    let a = c.args in
    c.with_word.ensures m
    ∙ ap (λ (word : ℕ). has a.set m || (ltb (a.n / 64) 4 && in_word (a.n / 64) word m)) (one_shl (a.n % 64) 64 (omega arith))
    ∙ ap (λ b. has a.set m || b) (one_bit a.n m)
