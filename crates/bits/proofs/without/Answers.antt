use native.Mathlib.Omega.{arith}
use Rattle.std.proofs.Common.{rules}
use Rattle.bits.proofs.Sets.{without_has}
use Rattle.bits.proofs.without.Goals as goal

pub returns : goal.returns
returns c =
    let items = c.from_fn.ensures.items in
    without_has c.args.a c.args.b _ (omega arith) (omega arith) items.long (λ i k h. let (p, q, called) = items.at i 0 h in search rules)
