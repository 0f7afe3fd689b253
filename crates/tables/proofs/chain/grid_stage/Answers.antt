use Rattle.std.proofs.Common.{◌∙◌}
use Rattle.meaning.proofs.Answers.{or_else_assoc}
use Rattle.tables.proofs.chain.grid_stage.Goals as goal

pub returns : goal.returns
returns c =
    c.or_else-2.ensures
    ∙ rw (
      c.or_else-asked.ensures,
      c.or_else.ensures,
      c.scaling-scaled.ensures,
      ← c.from_zero-reference.ensures,
      ← c.by_node-tec.ensures,
      ← c.by_node-paying.ensures,
      ← c.stage-reached.ensures,
      ← c.totals_stage-totalled.ensures,
      ← c.chargeable_stage-charged.ensures,
    ) (simp (or_else_assoc))
