use mathlib.Core.Path.{◌≡◌, ◌∙◌}
use Prim.Native.Nat.{ℕ, ◌≤◌}
use native.Mathlib.Omega.{arith}
use Rattle.integers.proofs.Sum.{sum-zero, sum_more}
use Rattle.meaning.specs.Scaled.{whole_share}
use Rattle.meaning.specs.Columns.{kw_at}
use Rattle.supply.proofs.Shares.{tec_small, share_is, missing_holds, missing_all}
use Rattle.supply.proofs.scaled.missing_kw.Goals as goal
use Rattle.supply.proofs.scaled.missing_kw.Goals.{After-share-missing, At-loop-v}

pub loop-v-init : goal.loop-v-init
loop-v-init c =
    let a = c.args in
    omega (arith, sum-zero (whole_share a.n (kw_at a.tec.now) a.demand.0))

-- a turn's share
module _ (c : After-share-missing) where
  abbrev l : At-loop-v
  l = c.before.before.before

  abbrev share : ℕ → ℕ
  share = let a = l.args in whole_share a.n (kw_at a.tec.now) a.demand.0

  answered : c.share-missing.result.0 ≡ share l.loop-v.v
  answered = c.share-missing.ensures ∙ share_is _ _ _ _ l.requires l.loop-v.v

  holds : share l.loop-v.v ≤ l.loop-v.missing
  holds = missing_holds _ _ _ _ l.requires l.loop-v.missing l.loop-v.v l.loop-v.invariant (omega arith)

pub share-missing-requires : goal.share-missing-requires
share-missing-requires c = (tec_small _ _ _ _ c.requires _ (omega arith), omega arith, omega arith)

pub overflow_sub-missing : goal.overflow_sub-missing
overflow_sub-missing c = omega (arith, answered c.before, holds c.before)

pub loop-v-preserved : goal.loop-v-preserved
loop-v-preserved c = let b = c.before in omega (arith, answered b, holds b, sum_more (l b).loop-v.v (share b))

pub returns : goal.returns
returns c =
    let e : c.loop-v.v ≡ c.args.n = omega arith in
    missing_all _ _ _ _ c.requires _ (rw e at c.loop-v.invariant)
