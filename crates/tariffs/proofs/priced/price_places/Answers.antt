use mathlib.Core.Path.{◌≡◌, refl, sym}
use native.Mathlib.Omega.{arith}
use Rattle.meaning.proofs.Columns.{column_begun, column_turn}
use Rattle.rests.proofs.Laws.{less_none, less_turn}
use Rattle.tariffs.proofs.priced.price_places.Goals as goal

pub loop-k-init : goal.loop-k-init
loop-k-init g c = λ line tariff kw each. (column_begun _ _ _ refl, sym (less_none _ _ _ _))

pub loop-k-preserved : goal.loop-k-preserved
loop-k-preserved g c = λ line tariff kw each.
    let k = c.loop-k.k in
    let before = c.loop-k.invariant line tariff kw each in
    let post = c.charge-place.ensures in (
      column_turn _ _ _ k (omega arith) before.0 (each.line_is k _ (omega arith) post),
      less_turn _ _ _ _ k before.1 (each.tariff_is k _ (omega arith) post) (rw (each.kw_is k _ (omega arith) post) at c.less-left.ensures),
    )

pub returns : goal.returns
returns g c = λ line tariff kw each.
    let e : c.loop-k.k ≡ c.args.count = omega arith in
    rw e at (c.loop-k.invariant line tariff kw each)
