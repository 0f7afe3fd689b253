use mathlib.Core.Path.{refl, sym, ◌∙◌}
use lib.ListN.{length}
use Rattle.zones.proofs.Laws.{reached_most}
use Rattle.tariffs.proofs.CaseLaws.{settings_say, sides_fit, over_made, over_none}
use Rattle.tariffs.proofs.figures.Goals as goal

pub backgrounds_of-sides-requires : goal.backgrounds_of-sides-requires
backgrounds_of-sides-requires c = (settings_say c.args.settings (sym c.settings_fit.ensures ∙ c.if-not-settings_fit.false), refl)

pub ranged_figures-requires : goal.ranged_figures-requires
ranged_figures-requires c =
    let a = c.args in
    let reached = reached_most a.nodes (length a.local.now) in (
      sides_fit a.settings a.nodes a.generation_zone a.tec a.paying a.paying_at_peak a.demand_zone a.demand a.wider.now a.peak_wider.now
          c.backgrounds_of-sides.ensures (sym c.settings_fit.ensures ∙ c.if-not-settings_fit.false),
      rw c.nodes_in-count.ensures reached.0,
      rw c.nodes_in-count.ensures reached.1,
    )

pub returns : goal.returns
returns c =
    let a = c.args in
    over_made a.settings a.nodes a.generation_zone a.tec a.paying a.paying_at_peak a.demand_zone a.demand a.wider.now a.peak_wider.now
    c.backgrounds_of-sides.ensures (sym c.settings_fit.ensures ∙ c.if-not-settings_fit.false) a.local.now a.shares c.nodes_in-count.ensures c.ranged_figures.ensures

pub returns-then-not-settings_fit : goal.returns-then-not-settings_fit
returns-then-not-settings_fit c =
    let a = c.args in
    c.no_figures.ensures
    ∙ over_none a.settings a.nodes a.generation_zone a.tec a.paying a.paying_at_peak a.demand_zone a.demand a.wider.now a.peak_wider.now a.local.now a.shares
    (sym c.settings_fit.ensures ∙ c.if-not-settings_fit.true)
