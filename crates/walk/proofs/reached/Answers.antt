use mathlib.Core.Path.{refl, sym, ◌∙◌}
use mathlib.Core.Logic.{◌≢◌}
use Prim.Native.Nat.{ℕ, ◌/◌, ◌≤◌, ◌<◌}
use native.Mathlib.Omega.{arith}
use Rattle.meaning.specs.First.{IsFirst}
use Rattle.bits.specs.Sets.{has}
use Rattle.bits.proofs.Sets.{empty_has}
use Rattle.walk.specs.Walk.{waits_in}
use Rattle.walk.proofs.Walking.{walk_begins, walk_on, walk_full, walk_still, visited_now, fewer}
use Rattle.walk.proofs.reached.Goals as goal

-- a number found in the set is below its end
found : {v : ℕ} → v ≤ 256 → v ≢ 256 → v < 256
found h e = omega (arith, e)

pub loop-visited-init : goal.loop-visited-init
loop-visited-init c = walk_begins empty_has c.with_node-reached.ensures

pub returns-then-size-n : goal.returns-then-size-n
returns-then-size-n c =
    rw (sym c.min-n.ensures, sym c.min-m.ensures)
    (walk_full c.loop-visited.invariant (omega (arith, c.min-n.ensures)) (sym c.size.ensures ∙ c.if-size-n.true))

pub returns-then-next-eq256 : goal.returns-then-next-eq256
returns-then-next-eq256 c =
    let waiting = c.without-waiting.result in
    let still : IsFirst (has waiting) 256 256 = rw c.if-next-eq256.true at c.lowest-next.ensures in
    rw (sym c.min-n.ensures, sym c.min-m.ensures)
    (walk_still c.loop-visited.invariant waiting (omega (arith, c.min-n.ensures)) c.without-waiting.ensures still)

pub bounds-waiting-w : goal.bounds-waiting-w
bounds-waiting-w c = omega (arith, found c.lowest-next.ensures.within c.if-next-eq256.false)

pub loop-visited-smaller : goal.loop-visited-smaller
loop-visited-smaller c =
    let without = c.without-waiting in
    let lowest = c.lowest-next in
    fewer c.loop-visited.reached c.loop-visited.visited without.result without.ensures (lowest.result / 64) c.with_word-more.result c.with_word-more.ensures refl lowest.ensures
    (found lowest.ensures.within c.if-next-eq256.false)

pub loop-visited-preserved : goal.loop-visited-preserved
loop-visited-preserved c =
    let without = c.without-waiting in
    let w = c.lowest-next.result / 64 in
    let f = c.follow-wider.ensures in
    walk_on {now = waits_in c.loop-visited.reached c.loop-visited.visited w} c.loop-visited.invariant (record { kept = f.kept; full = f.full; sound = f.sound })
    (visited_now c.loop-visited.reached c.loop-visited.visited without.result without.ensures w c.with_word-more.result c.with_word-more.ensures)
