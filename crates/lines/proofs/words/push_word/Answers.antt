use Rattle.lines.proofs.Making.{put_word}
use native.Mathlib.Omega.{arith}
use Rattle.lines.proofs.words.push_word.Goals as goal

pub returns : goal.returns
returns c = put_word _ _ _ c.copy_from_slice.ensures.after (omega arith)
