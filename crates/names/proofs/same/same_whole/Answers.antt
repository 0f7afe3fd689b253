use native.Mathlib.Omega.{arith}
use Rattle.names.proofs.ByteLaws.{same_numbers}
use Rattle.names.proofs.same.same_whole.Goals as goal

pub returns : goal.returns
returns c =
    let a = c.args in
    same_numbers a.file.now (λ i. omega (arith, c.type_inv.file i)) a.a a.b (omega arith) (omega arith) c.whole_u64.ensures c.whole_u64-2.ensures c.whole_u32.ensures c.whole_u32-2.ensures
