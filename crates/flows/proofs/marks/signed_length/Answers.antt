use mathlib.Core.Path.{◌≡◌, sym, ◌∙◌}
use mathlib.Core.Logic.{⊎_elim}
use Prim.Native.Nat.{◌*◌, ◌≤◌}
use native.Mathlib.Omega.{arith}
use lib.IntN.{pos, ◌-ℤ◌}
use mir.Syntax.{w64}
use mir.Val.{to_z}
use Rattle.integers.proofs.Machine.{Back, fit_back, of_nat}
use Rattle.meaning.specs.Direction.{direction}
use Rattle.flows.proofs.Signed.{turned_fits, too_long, idle_length, forward_length, backward_length, doubtful_length}
use Rattle.flows.proofs.marks.signed_length.Goals as goal

pub returns-then-long-gt30000000000 : goal.returns-then-long-gt30000000000
returns-then-long-gt30000000000 c = too_long _ _ (omega arith)

pub overflow_sub-result : goal.overflow_sub-result
overflow_sub-result c =
    let bn : to_z w64 (1000000 * c.args.long) ≡ pos (1000000 * c.args.long) = of_nat _ (omega arith) in
    simp bn (turned_fits (1000000 * c.args.long) (omega arith))

pub returns-in-Idle : goal.returns-in-Idle
returns-in-Idle c =
    let short : c.args.long ≤ 30000000000 = omega arith in
    let directed : c.direction_of.result ≡ direction c.args.flow = let b : Back c.args.flow = fit_back c.ranges.flow in simp b at c.direction_of.ensures in
    ⊎_elim (λ e. idle_length _ _ short (sym e ∙ directed)) (λ e. doubtful_length _ _ short (sym e ∙ directed)) c.in-Idle.is

pub returns-in-Forward : goal.returns-in-Forward
returns-in-Forward c =
    let short : c.args.long ≤ 30000000000 = omega arith in
    let bn : to_z w64 (1000000 * c.args.long) ≡ pos (1000000 * c.args.long) = of_nat _ (omega arith) in
    let directed : c.direction_of.result ≡ direction c.args.flow = let b : Back c.args.flow = fit_back c.ranges.flow in simp b at c.direction_of.ensures in
    bn ∙ forward_length _ _ short (sym c.in-Forward.is ∙ directed)

pub returns-in-Backward : goal.returns-in-Backward
returns-in-Backward c =
    let short : c.args.long ≤ 30000000000 = omega arith in
    let bn : to_z w64 (1000000 * c.args.long) ≡ pos (1000000 * c.args.long) = of_nat _ (omega arith) in
    let bt : Back (pos 0 -ℤ pos (1000000 * c.args.long)) = fit_back (turned_fits (1000000 * c.args.long) (omega arith)) in
    let directed : c.direction_of.result ≡ direction c.args.flow = let b : Back c.args.flow = fit_back c.ranges.flow in simp b at c.direction_of.ensures in
    simp (bn, bt) (backward_length _ _ short (sym c.in-Backward.is ∙ directed))
