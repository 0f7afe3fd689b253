use mathlib.Core.Path.{sym, ◌∙◌}
use Rattle.layout.proofs.Rows.{settings_whole, settings_none}
use Rattle.layout.proofs.settings.Goals as goal
use Rattle.layout.proofs.settings.Goals.{then-whole, else-whole}

pub returns : goal.returns
returns c = elim c.if-whole.branch [
  | then-whole w ↦ settings_whole _ (rw w.settings-is at c.settings.ensures) (sym c.whole.ensures ∙ w.if-whole.true)
  | else-whole w ↦ settings_none _ (rw w.settings-is at c.settings.ensures) (sym c.whole.ensures ∙ w.if-whole.false)
]
