use Rattle.std.proofs.Common.{sym}
use Rattle.layout.proofs.Rows.{nodes_from}
use Rattle.circuit_table.proofs.judge.Goals as goal

pub stage-judged-requires : goal.stage-judged-requires
stage-judged-requires c =
    record { nodes = sym (nodes_from _ c.section-nodes.ensures).count; section = c.section-rows.ensures; columns = c.columns-read.ensures }
