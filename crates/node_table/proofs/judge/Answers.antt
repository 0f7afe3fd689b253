use Rattle.node_table.proofs.judge.Goals as goal

pub stage-requires : goal.stage-requires
stage-requires c = (c.section-rows.ensures, c.settings.ensures)
