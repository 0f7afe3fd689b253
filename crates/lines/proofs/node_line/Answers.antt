-- By the case of the node.
use native.Mathlib.Omega.{arith}
use lib.ListN.{take}
use Rattle.integers.proofs.Machine.{back}
use Rattle.meaning.specs.Name.{unpadded}
use Rattle.meaning.specs.Text.{ends, line}
use Rattle.meaning.specs.Sheet.{node_fields}
use Rattle.lines.proofs.Making.{both, longer}
use Rattle.lines.proofs.Numbers.{ends_spaced}
use Rattle.lines.proofs.Lined.{node_none, node_full}
use Rattle.lines.proofs.node_line.Goals as goal

pub returns-then-l-eq0 : goal.returns-then-l-eq0
returns-then-l-eq0 c = rw (node_none (unpadded (take 12 c.args.name.now)) c.args.l c.if-l-eq0.true) (longer c.empty.ensures (omega arith))

pub returns : goal.returns
unfolding node_fields line ends
returns c =
    let a = c.args in
    let numbers = rw (back a.l.metres.0 (omega arith), back a.l.tariff.0 (omega arith)) at c.push_numbers.ensures in
    rw (node_full (unpadded (take 12 a.name.now)) a.l c.if-l-eq0.false, ends_spaced)
    (longer (both c.line_of-line.ensures (both c.push_name.ensures (both numbers c.push.ensures))) (omega arith))
