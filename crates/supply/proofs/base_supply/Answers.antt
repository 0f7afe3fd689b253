use mathlib.Core.Path.{sym, ◌∙◌, refl}
use Rattle.supply.proofs.Bounds.{refused, few, not_below, can_share, small_fixed, small_demand, small_made, supplied}
use Rattle.supply.proofs.base_supply.Goals as goal

pub overflow_sub-remaining : goal.overflow_sub-remaining
overflow_sub-remaining c =
    not_below _ _ _ _ _ _ _ c.total-least.ensures c.total-most.ensures c.total-wanted.ensures (sym c.runnable.ensures ∙ c.if-runnable.true)

pub shared-shared-requires : goal.shared-shared-requires
shared-shared-requires c =
    can_share _ _ _ _ _ _ _ c.total-least.ensures c.total-most.ensures c.total-wanted.ensures (sym c.runnable.ensures ∙ c.if-runnable.true) _ refl

pub supplies-requires : goal.supplies-requires
supplies-requires c =
    let a = c.args in
    let f = c.total-least.ensures in
    let t = c.total-most.ensures in
    let w = c.total-wanted.ensures in
    let held = sym c.runnable.ensures ∙ c.if-runnable.true in (
      few a.n a.fixed a.variable a.demand _ _ _ f t w held,
      small_fixed a.n a.fixed a.variable a.demand _ _ _ f t w held _ refl,
      small_made a.n a.fixed a.variable a.demand _ _ _ f t w held _ refl _ c.shared-shared.ensures,
      small_demand a.n a.fixed a.variable a.demand _ _ _ f t w held _ refl,
    )

pub returns-then-runnable : goal.returns-then-runnable
returns-then-runnable c =
    let a = c.args in
    supplied a.n a.fixed a.variable a.demand _ _ _ c.total-least.ensures c.total-most.ensures c.total-wanted.ensures (sym c.runnable.ensures ∙ c.if-runnable.true)
    _ refl _ c.shared-shared.ensures _ c.supplies.ensures

pub returns : goal.returns
returns c =
    refused _ _ _ _ _ _ _ c.total-least.ensures c.total-most.ensures c.total-wanted.ensures (sym c.runnable.ensures ∙ c.if-runnable.false)
