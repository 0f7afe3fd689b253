-- `wirepulley::wirepulley_write_shared` meets its contract: what the entry settles, told.
use mathlib.Core.Path.{ap}
use Rattle.meaning.specs.Outcome.{Settled}
use Rattle.wirepulley.proofs.Telling.{tells_same}
use Rattle.wirepulley.proofs.wirepulley_write_shared.Goals as goal

pub returns : goal.returns
returns c =
    let e = c.write-answer.ensures.contract in
    record { answer = tells_same _ _ (ap (λ (s : Settled). s.answer) e) c.tell.ensures; buffer = ap (λ (s : Settled). s.buffer) e }
