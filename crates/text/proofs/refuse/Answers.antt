-- `text::refuse` meets its contract.
use mathlib.Core.Path.{refl}
use native.Mathlib.Omega.{arith}
use Rattle.meaning.specs.Outcome.{refused_line}
use Rattle.lines.proofs.Making.{ready, copied}
use Rattle.text.proofs.Sizing.{written}
use Rattle.text.proofs.refuse.Goals as goal

pub returns-then-out-lt-REFUSAL_ROOM : goal.returns-then-out-lt-REFUSAL_ROOM
returns-then-out-lt-REFUSAL_ROOM c = record { long = λ h. absurd (omega (arith, h, c.if-out-lt-REFUSAL_ROOM.true)); short = λ h. (refl, refl) }

pub put_line-requires : goal.put_line-requires
put_line-requires c = ready c.refused_line-line.result c.refused_line-line.ensures (omega arith) 0 (omega arith)

pub returns : goal.returns
unfolding refused_line
returns c =
    let line = copied c.refused_line-line.result (rw c.of_refusal.ensures at c.refused_line-line.ensures) (omega arith) c.put_line.ensures in
    record { long = λ h. written line (omega (arith, h)); short = λ h. absurd (omega (arith, h, c.if-out-lt-REFUSAL_ROOM.false)) }
