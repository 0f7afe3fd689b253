use native.Mathlib.Omega.{arith}
use Rattle.lines.proofs.Making.{both, longer}
use Rattle.lines.proofs.numbered.Goals as goal

pub returns : goal.returns
returns c = longer (both c.line_of-line.ensures (both c.push_numbers.ensures c.push.ensures)) (omega arith)
