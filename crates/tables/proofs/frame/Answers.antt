-- `tables::frame` meets its contract.
use mathlib.Core.Path.{sym, ◌∙◌}
use native.Mathlib.Omega.{arith}
use Rattle.tables.proofs.FrameLaws.{file_stops, runs_stop, settings_decide, few_rows, setting_is, runs_asked}
use Rattle.tables.proofs.frame.Goals as goal

pub overflow_add-count : goal.overflow_add-count
overflow_add-count c = omega (arith, few_rows _ c.counts-counts.ensures)

pub returns-then-year_round_runs-peak_runs : goal.returns-then-year_round_runs-peak_runs
returns-then-year_round_runs-peak_runs c =
    let whole = sym c.whole.ensures ∙ c.if-not-whole.false in
    let asked = runs_asked _ c.counts-counts.ensures whole c.settings-settings.ensures c.args.long c.year_round_runs.ensures c.peak_count-peak.ensures c.peak_runs.ensures in
    settings_decide _ _ whole (sym asked ∙ c.if-year_round_runs-peak_runs.true) (setting_is _ c.counts-counts.ensures c.settings-settings.ensures c.stage.ensures)

pub returns : goal.returns
returns c =
    let whole = sym c.whole.ensures ∙ c.if-not-whole.false in
    let asked = runs_asked _ c.counts-counts.ensures whole c.settings-settings.ensures c.args.long c.year_round_runs.ensures c.peak_count-peak.ensures c.peak_runs.ensures in
    runs_stop _ _ whole (sym asked ∙ c.if-year_round_runs-peak_runs.false)

pub returns-then-not-whole : goal.returns-then-not-whole
returns-then-not-whole c = file_stops _ _ (sym c.whole.ensures ∙ c.if-not-whole.true)
