-- By the sign, the text is the digits of the magnitude, after a minus sign below zero.
use mathlib.Core.Path.{ap}
use Prim.Native.Nat.{ℕ}
use native.Mathlib.Omega.{arith}
use lib.ListN.{length}
use Rattle.integers.proofs.Machine.{Back, fit_back, lt_true, lt_false}
use Rattle.meaning.specs.Text.{natural}
use Rattle.lines.specs.declared.Line.{Line}
use Rattle.lines.proofs.Making.{both, within}
use Rattle.lines.proofs.Numbers.{decimal_below, decimal_above, decimal_i64}
use Rattle.lines.proofs.digits.push_decimal.Goals.{then-below_zero, else-below_zero}
use Rattle.lines.proofs.digits.push_decimal.Goals as goal

pub push_natural-requires : goal.push_natural-requires
push_natural-requires c =
    let z = c.args.z in
    let back : Back z = fit_back c.ranges.z in
    let n = ap (λ (m : ℕ). length (natural m)) (rw back at c.unsigned_abs.ensures.value) in
    elim c.if-below_zero.branch [
      | then-below_zero w ↦
          let is = decimal_below z (lt_true (rw back at w.if-below_zero.true)) in
          omega (arith, ap (λ (l : Line). l.len) w.line-is, w.push.ensures.next, n, ap length is, decimal_i64 z c.ranges.z)
      | else-below_zero w ↦
          let is = decimal_above z (lt_false (rw back at w.if-below_zero.false)) in
          omega (arith, ap (λ (l : Line). l.len) w.line-is, n, ap length is, decimal_i64 z c.ranges.z)
    ]

pub returns : goal.returns
returns c =
    let z = c.args.z in
    let back : Back z = fit_back c.ranges.z in
    let digits = rw (rw back at c.unsigned_abs.ensures.value) at c.push_natural.ensures in
    elim c.if-below_zero.branch [
      | then-below_zero w ↦
          let is = decimal_below z (lt_true (rw back at w.if-below_zero.true)) in
          let rest = rw w.line-is at digits in
          within (rw (← is) at (both w.push.ensures rest)) (decimal_i64 z c.ranges.z)
      | else-below_zero w ↦
          let is = decimal_above z (lt_false (rw back at w.if-below_zero.false)) in
          within (rw (w.line-is, ← is) at digits) (decimal_i64 z c.ranges.z)
    ]
