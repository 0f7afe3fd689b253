use mathlib.Core.Path.{sym}
use Rattle.meaning.proofs.Says.{says_le, ◌also◌}
use Rattle.zones.proofs.Laws.{reached_all, reached_none}
use Rattle.zones.proofs.nodes_in.Goals as goal

pub returns-then-nodes-run : goal.returns-then-nodes-run
returns-then-nodes-run c = let s = (says_le also says_le).0 c.if-nodes-run.true in sym (reached_all _ _ s.0 s.1)

pub returns : goal.returns
returns c = sym (reached_none _ _ c.if-nodes-run.false)
