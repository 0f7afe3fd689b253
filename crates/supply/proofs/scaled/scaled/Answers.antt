use mathlib.Core.Path.{◌≡◌, sym, ◌∙◌, ap}
use Prim.Native.Nat.{ℕ, ◌+◌, ◌<◌}
use native.Mathlib.Omega.{arith}
use Rattle.integers.specs.Numbers.{sum}
use Rattle.integers.proofs.Sum.{sum-zero, sum_more}
use Rattle.meaning.specs.Scaled.{whole_share, left_over}
use Rattle.meaning.specs.Columns.{kilowatts, kw_at}
use Rattle.meaning.proofs.Columns.{column_none, column_turn}
use Rattle.supply.proofs.Shares.{tec_small, share_is, share_small, over_is, over_one, before_small, scaled_is}
use Rattle.supply.proofs.scaled.scaled.Goals as goal
use Rattle.supply.proofs.scaled.scaled.Goals.{After-kw-1, After-over-more, After-share, Start}

pub missing_kw-missing-requires : goal.missing_kw-missing-requires
missing_kw-missing-requires c = c.requires

pub loop-v-init : goal.loop-v-init
loop-v-init c = (sym (sum-zero _), sym (column_none (kilowatts 0) 256 _))

-- ---- a turn's node: its share and what is left over, as they were answered
module _ (c : After-kw-1) where
  abbrev s : Start
  s = c.before.before.before.before

  abbrev v : ℕ
  v = c.loop-v.v

  in_table : v < s.args.n
  in_table = omega arith

  more : let f = left_over s.args.n (kw_at s.args.tec.now) s.args.demand.0 in sum (v + 1) f ≡ sum v f + f v
  more = sum_more v (left_over s.args.n (kw_at s.args.tec.now) s.args.demand.0)

over-answered : (c : After-over-more) → c.over-more.result ≡ let a = (s c.before).args in left_over a.n (kw_at a.tec.now) a.demand.0 (v c.before)
over-answered c = c.over-more.ensures ∙ over_is _ _ _ _ (s c.before).requires (v c.before)

share-answered : (c : After-share) → c.share.result.0 ≡ let a = (s c.before.before).args in whole_share a.n (kw_at a.tec.now) a.demand.0 (v c.before.before)
share-answered c = c.share.ensures ∙ share_is _ _ _ _ (s c.before.before).requires (v c.before.before)

pub over-more-requires : goal.over-more-requires
over-more-requires c = (tec_small _ _ _ _ (s c).requires _ (in_table c), omega arith, omega arith)

pub share-requires : goal.share-requires
share-requires c = let k = c.before in (tec_small _ _ _ _ (s k).requires _ (in_table k), omega arith, omega arith)

pub with_over-requires : goal.with_over-requires
with_over-requires c =
    let k = c.before.before in
    (omega (arith, share-answered c, share_small _ _ _ _ (s k).requires (v k) (in_table k)), omega (arith, over-answered c.before, over_one _ _ _ _ (s k).requires (v k)))

pub overflow_add-before : goal.overflow_add-before
overflow_add-before c =
    let k = c.before.before.before in
    omega (arith, k.loop-v.invariant.0, over-answered c.before.before, over_one _ _ _ _ (s k).requires (v k), before_small _ _ _ _ (s k).requires (v k) (in_table k))

pub loop-v-preserved : goal.loop-v-preserved
loop-v-preserved c =
    let k = c.before.before.before in
    let o = over-answered c.before.before in (
      omega (arith, k.loop-v.invariant.0, o, more k),
      column_turn (kilowatts 0) 256 _ (v k) (omega arith) k.loop-v.invariant.1 (ap kilowatts (c.with_over.ensures
          ∙ scaled_is _ _ _ _ (s k).requires (v k) _ _ _ _ (share-answered c.before) o k.loop-v.invariant.0 k.missing_kw-missing.ensures)),
    )

pub returns : goal.returns
returns c =
    let e : c.loop-v.v ≡ c.args.n = omega arith in
    rw e at c.loop-v.invariant.1
