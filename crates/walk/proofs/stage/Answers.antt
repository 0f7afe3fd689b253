use native.Mathlib.Omega.{arith}
use Rattle.walk.specs.Walk.{walked}
use Rattle.walk.proofs.Walking.{node_unreached, all_reached}
use Rattle.walk.proofs.stage.Goals as goal

pub returns-then-row-n : goal.returns-then-row-n
returns-then-row-n c =
    let a = c.args in
    let f = rw c.min-n.ensures at c.first_missing-row.ensures in
    node_unreached (walked a.nodes a.reference a.circuits a.first.now a.second.now) c.reached.result c.reached.ensures f (omega (arith, c.min-n.ensures))

pub returns : goal.returns
returns c =
    let a = c.args in
    let f = rw c.min-n.ensures at c.first_missing-row.ensures in
    all_reached (walked a.nodes a.reference a.circuits a.first.now a.second.now) c.reached.result c.reached.ensures f (omega (arith, c.min-n.ensures))
