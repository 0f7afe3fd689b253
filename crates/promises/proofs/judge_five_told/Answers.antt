-- `promises::judge_five_told`: the same of the exported judge, whose numbers tell that answer.
use Rattle.promises.proofs.Judging.{every_judge_promised}
use Rattle.promises.proofs.judge_five_told.Goals as goal

pub returns : goal.returns
returns c = record { answer = _; promised = every_judge_promised _ _ _; told = c.wirepulley_judge_five.ensures }
