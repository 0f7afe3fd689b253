-- `sheet::judge` meets its contract: the refusal, or the length of the figures' text.
use Rattle.sheet.proofs.Settles.{refusal_answered, sheet_answered}
use Rattle.sheet.proofs.judge.Goals as goal

pub returns-in-Err : goal.returns-in-Err
returns-in-Err c = refusal_answered _ _ _ c.charge.ensures c.in-Err.is

pub returns-in-Ok : goal.returns-in-Ok
returns-in-Ok c = sheet_answered _ _ _ c.charge.ensures c.in-Ok.is c.text_length.ensures
