-- `charges::of_columns` meets its contract.
use Rattle.std.proofs.Common.{sym}
use Rattle.meaning.proofs.Answers.{yields_stops, yields_passes}
use Rattle.charges.proofs.Charging.{stopped, charged}
use Rattle.charges.proofs.of_columns.Goals as goal

pub returns-in-Err : goal.returns-in-Err
returns-in-Err c = stopped _ _ _ c.open.ensures.judged (sym (yields_stops _ c.in-Err.is))

pub returns-in-Ok : goal.returns-in-Ok
returns-in-Ok c = charged _ _ _ c.open.ensures.judged (sym (yields_passes _ c.in-Ok.is)) c.figures_of.ensures
