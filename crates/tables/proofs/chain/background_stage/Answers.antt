use Rattle.tables.proofs.chain.background_stage.Goals as goal

pub returns : goal.returns
returns c = rw (← c.by_node-variable.ensures, ← c.by_node-fixed.ensures) c.scaling_stage.ensures
