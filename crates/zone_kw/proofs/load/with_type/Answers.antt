use mathlib.Core.Path.{sym, ap}
use Prim.Native.Nat.{ℕ, ◌+◌}
use native.Mathlib.Omega.{arith}
use Rattle.meaning.specs.Columns.{number_at, kw_at}
use Rattle.meaning.proofs.Columns.{column_none, column_turn}
use Rattle.meaning.proofs.Columns.{column_full}
use Rattle.zone_kw.specs.Load.{with_type}
use Rattle.zone_kw.proofs.LoadLaws.{load_made, load_low, more}
use Rattle.zone_kw.proofs.load.with_type.Goals as goal

pub loop-k-init : goal.loop-k-init
loop-k-init c = let a = c.args in sym (column_none 0 32 (more a.sums.now a.plant a.kw.now a.factor))

pub overflow_mul-all : goal.overflow_mul-all
overflow_mul-all c =
    let a = c.args in
    let k = c.loop-k.k in
    omega (arith, load_made a.plant (kw_at a.kw.now k) a.factor c.part.ensures c.kept-factor.ensures, load_low a.plant (kw_at a.kw.now k) a.factor (c.requires.more k))

pub overflow_add-all : goal.overflow_add-all
overflow_add-all c =
    let a = c.args in
    let k = c.loop-k.k in
    omega (arith, load_made a.plant (kw_at a.kw.now k) a.factor c.part.ensures c.kept-factor.ensures, load_low a.plant (kw_at a.kw.now k) a.factor (c.requires.more k), c.requires.added k)

pub loop-k-preserved : goal.loop-k-preserved
loop-k-preserved c =
    let a = c.args in
    let k = c.loop-k.k in
    let adds = load_made a.plant (kw_at a.kw.now k) a.factor c.part.ensures c.kept-factor.ensures in
    column_turn 0 32 (more a.sums.now a.plant a.kw.now a.factor) k (omega arith) c.loop-k.invariant (ap (λ (x : ℕ). number_at a.sums.now k + x) adds)

pub returns : goal.returns
unfolding with_type
returns c = column_full _ _ _ c.loop-k.k c.loop-k.invariant (omega arith) (omega arith)
