use mathlib.Core.Path.{sym}
use Prim.Native.Nat.{◌+◌, ◌≤◌}
use native.Mathlib.Omega.{arith}
use Rattle.integers.proofs.Machine.{back}
use Rattle.integers.proofs.Sum.{sum-zero}
use Rattle.flows.specs.Flows.{number}
use Rattle.flows.proofs.Misses.{size_most, size_told, sum_told, too_high, all_low}
use Rattle.flows.proofs.misses_low.Goals as goal

pub loop-c-init : goal.loop-c-init
loop-c-init c = (omega arith, sym (sum-zero _))

pub overflow_add-total : goal.overflow_add-total
overflow_add-total c =
    let a = c.args in
    let bp = back c.number_at-p.result c.number_at-p.type_inv in
    let bq = back c.number_at-q.result c.number_at-q.type_inv in
    let bf = back (number a.run.now (a.n + c.loop-c.c)) c.miss_size-arg-in-loop-c-1.given in
    let bo = back (number a.offset.now c.loop-c.c) c.miss_size-arg-in-loop-c-2-1.given in
    let sized = size_told a.n a.first.now a.second.now a.x.now a.offset.now a.run.now c.loop-c.c c.number_at-p.ensures c.number_at-q.ensures (simp (bp, bq, bf, bo) at c.miss_size-total.ensures) in
    let most : c.miss_size-total.result ≤ 5030000000000000000 = rw sized (size_most _ _ _ _ _) in
    omega (arith, most)

pub returns-then-total-gt100000000 : goal.returns-then-total-gt100000000
returns-then-total-gt100000000 c =
    let a = c.args in
    let bp = back c.number_at-p.result c.number_at-p.type_inv in
    let bq = back c.number_at-q.result c.number_at-q.type_inv in
    let bf = back (number a.run.now (a.n + c.loop-c.c)) c.miss_size-arg-in-loop-c-1.given in
    let bo = back (number a.offset.now c.loop-c.c) c.miss_size-arg-in-loop-c-2-1.given in
    let sized = size_told a.n a.first.now a.second.now a.x.now a.offset.now a.run.now c.loop-c.c c.number_at-p.ensures c.number_at-q.ensures (simp (bp, bq, bf, bo) at c.miss_size-total.ensures) in
    too_high a.n a.first.now a.second.now a.x.now a.offset.now a.run.now (c.loop-c.c + 1) _ (omega arith) (sum_told a.n a.first.now a.second.now a.x.now a.offset.now a.run.now c.loop-c.c c.loop-c.invariant.1 sized) (omega arith)

pub loop-c-preserved : goal.loop-c-preserved
loop-c-preserved c =
    let a = c.args in
    let bp = back c.number_at-p.result c.number_at-p.type_inv in
    let bq = back c.number_at-q.result c.number_at-q.type_inv in
    let bf = back (number a.run.now (a.n + c.loop-c.c)) c.miss_size-arg-in-loop-c-1.given in
    let bo = back (number a.offset.now c.loop-c.c) c.miss_size-arg-in-loop-c-2-1.given in
    let sized = size_told a.n a.first.now a.second.now a.x.now a.offset.now a.run.now c.loop-c.c c.number_at-p.ensures c.number_at-q.ensures (simp (bp, bq, bf, bo) at c.miss_size-total.ensures) in
    (omega arith, sum_told a.n a.first.now a.second.now a.x.now a.offset.now a.run.now c.loop-c.c c.loop-c.invariant.1 sized)

pub returns : goal.returns
returns c = let a = c.args in
    all_low a.n a.first.now a.second.now a.x.now a.offset.now a.run.now _ _ (omega arith) c.loop-c.invariant.1 c.loop-c.invariant.0
