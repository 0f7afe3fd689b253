-- `promises::judge`: the demands of an answer without a buffer follow from the contract of `sheet::judge`.
use mathlib.Core.Path.{sym, subst}
use Rattle.promises.specs.Judging.{JudgePromised}
use Rattle.promises.proofs.Judging.{every_judge_promised}
use Rattle.promises.proofs.judge.Goals as goal

pub returns : goal.returns
returns c = subst (JudgePromised _ _ _) (sym c.judge.ensures) (every_judge_promised _ _ _)
