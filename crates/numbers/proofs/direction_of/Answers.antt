use mathlib.Core.Path.{◌≡◌, sym, ◌∙◌}
use lib.Dec.{leb}
use lib.IntN.{nat_abs}
use Rattle.integers.proofs.Machine.{Back, fit_back, lt_true, lt_false}
use Rattle.numbers.proofs.Directions.{idle, in_doubt, backward, forward}
use Rattle.numbers.proofs.direction_of.Goals as goal
use Rattle.numbers.proofs.direction_of.Goals.{After-within, After-within-2, Start}

bf : (s : Start) → Back s.args.flow
bf s = fit_back s.ranges.flow

-- what the two calls answered
narrow : (c : After-within) → c.within.result ≡ leb (nat_abs c.args.flow) 200000000
narrow c = simp (bf c.before) at c.within.ensures

wide : (c : After-within-2) → c.within-2.result ≡ leb (nat_abs c.args.flow) 400000000
wide c = simp (bf c.before.before.before) at c.within-2.ensures

pub returns-then-within : goal.returns-then-within
returns-then-within c = idle _ (sym (narrow c.before) ∙ c.if-within.true)

pub returns-then-within-2 : goal.returns-then-within-2
returns-then-within-2 c =
    let e = c.before.before in
    in_doubt _ (sym (narrow e.before) ∙ e.if-within.false) (sym (wide c.before) ∙ c.if-within-2.true)

pub returns-then-flow-lt0 : goal.returns-then-flow-lt0
returns-then-flow-lt0 c =
    let d = c.before in
    let e = d.before.before in
    let s = e.before.before in
    backward _ (sym (narrow e.before) ∙ e.if-within.false) (sym (wide d.before) ∙ d.if-within-2.false) (lt_true (simp (bf s) at c.if-flow-lt0.true))

pub returns : goal.returns
returns c =
    let d = c.before in
    let e = d.before.before in
    let s = e.before.before in
    forward _ (sym (narrow e.before) ∙ e.if-within.false) (sym (wide d.before) ∙ d.if-within-2.false) (lt_false (simp (bf s) at c.if-flow-lt0.false))
