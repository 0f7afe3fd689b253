-- `promises::judge_shared_told`: the same of the exported judge, whose numbers tell that answer.
use Rattle.promises.proofs.Judging.{every_judge_promised}
use Rattle.promises.proofs.judge_shared_told.Goals as goal

pub returns : goal.returns
returns c = record { answer = _; promised = every_judge_promised _ _ _; told = c.wirepulley_judge_shared.ensures }
