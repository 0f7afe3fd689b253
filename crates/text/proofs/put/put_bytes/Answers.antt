use native.Mathlib.Omega.{arith}
use Rattle.lines.proofs.Making.{put_word}
use Rattle.text.proofs.put.put_bytes.Goals as goal

pub returns : goal.returns
returns c = put_word _ _ _ c.copy_from_slice.ensures.after (omega arith)
