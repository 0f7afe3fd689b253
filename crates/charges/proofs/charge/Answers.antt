-- `charges::charge` meets its contract.
use Rattle.std.proofs.Common.{ap, ◌∙◌}
use Rattle.tables.specs.Order.{frame_stage}
use Rattle.tables.proofs.FrameLaws.{long_is}
use Rattle.charges.proofs.Charging.{frame_stopped}
use Rattle.charges.proofs.charge.Goals as goal

pub returns-in-Err : goal.returns-in-Err
returns-in-Err c = frame_stopped _ _ _ (c.frame.ensures ∙ ap (frame_stage _) (long_is c.args.runs.now c.of.ensures)) c.in-Err.is
