-- `wirepulley::wirepulley_judge_shared` meets its contract: the answer with room enough, told.
use Rattle.wirepulley.proofs.Telling.{tells_same}
use Rattle.wirepulley.proofs.wirepulley_judge_shared.Goals as goal

pub returns : goal.returns
returns c = tells_same _ _ c.judge-answer.ensures c.tell.ensures
