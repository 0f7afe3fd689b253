use mathlib.Core.Path.{◌≡◌, refl}
use mathlib.Core.List.{[]}
use native.Mathlib.Omega.{arith}
use Rattle.std.proofs.Common.{unwrap_or}
use Rattle.meaning.specs.Columns.{network_in}
use Rattle.walk.proofs.Following.{following_begins, following_on, following_ends}
use Rattle.walk.proofs.circuits.follow.Goals as goal

pub loop-next-init : goal.loop-next-init
loop-next-init c = let n = c.next_at-next.ensures in (following_begins _ _ _ c.word_without-word.result c.word_without-word.ensures n.lowest, n.below)

pub loop-next-smaller : goal.loop-next-smaller
loop-next-smaller c =
    let at : unwrap_or c.loop-next.next c.args.m ≡ c.in-Some.c = rw c.in-Some.is refl in
    omega (arith, at, c.loop-next.invariant.1 _ c.in-Some.is, c.next_at-next-in-Some.ensures.lowest.after)

pub loop-next-preserved : goal.loop-next-preserved
loop-next-preserved c =
    let a = c.args in
    let n = c.next_at-next-in-Some.ensures in (
      following_on (network_in a.n a.m 0 a.first.now a.second.now []) a.visited a.w a.reached c.loop-next.wider c.with_node.result c.with_node-wider.result c.word_without-waiting.result
          (rw c.in-Some.is at c.loop-next.invariant.0) (c.loop-next.invariant.1 _ c.in-Some.is) c.with_node.ensures c.with_node-wider.ensures c.word_without-waiting.ensures n.lowest,
      n.below,
    )

pub returns : goal.returns
returns c = following_ends _ _ _ (rw c.in_default.is at c.loop-next.invariant.0) (omega arith)
