use mathlib.Core.Path.{◌≡◌, sym}
use Prim.Native.Nat.{◌+◌, ◌<◌}
use native.Mathlib.Omega.{arith}
use Rattle.std.proofs.lemmas.List.{length-take}
use Rattle.integers.proofs.Sum.{sum-zero, sum_part}
use Rattle.meaning.specs.Columns.{kw_at}
use Rattle.totals.proofs.TotalLaws.{many_rows, much, added_up, one_more}
use Rattle.totals.proofs.total.Goals as goal

pub returns-then-n-gt256 : goal.returns-then-n-gt256
returns-then-n-gt256 c = many_rows _ _ c.if-n-gt256.true

pub loop-kw-init : goal.loop-kw-init
loop-kw-init c = (omega arith, sym (sum-zero _))

pub overflow_sub-total : goal.overflow_sub-total
overflow_sub-total c = c.loop-kw.invariant.0

pub returns-then-kw-total : goal.returns-then-kw-total
returns-then-kw-total c =
    let a = c.args in
    let i = c.loop-kw.kw-index in
    let below : i < a.n = omega (arith, length-take a.n a.column) in
    let next = one_more a.n a.column i c.loop-kw.invariant.1 below in
    much a.n _ (omega arith) (omega (arith, next, sum_part (i + 1) a.n (kw_at a.column) (omega arith)))

pub loop-kw-preserved : goal.loop-kw-preserved
loop-kw-preserved c =
    let a = c.args in
    let below : c.loop-kw.kw-index < a.n = omega (arith, length-take a.n a.column) in
    (omega arith, one_more a.n a.column c.loop-kw.kw-index c.loop-kw.invariant.1 below)

pub returns : goal.returns
returns c =
    let a = c.args in
    let e : c.loop-kw.kw-index ≡ a.n = omega (arith, length-take a.n a.column) in
    let t = rw e at c.loop-kw.invariant.1 in
    rw t (added_up a.n a.column (omega arith) (omega (arith, t)))
