use Rattle.std.proofs.Common.{◌≡◌, pos, get_or, length}
use native.Mathlib.Omega.{arith}
use lib.Seq.{take_all}
use Rattle.integers.proofs.Machine.{back}
use Rattle.lines.specs.Making.{spaced}
use Rattle.lines.proofs.Making.{both, longer, put_none}
use Rattle.lines.proofs.Numbers.{spaced_more}
use Rattle.lines.proofs.digits.push_numbers.Goals as goal

pub loop-z-init : goal.loop-z-init
unfolding spaced
loop-z-init c = put_none _ _

pub push-requires : goal.push-requires
push-requires c = omega (arith, c.loop-z.invariant.next, c.loop-z.invariant.short)

pub push_decimal-requires : goal.push_decimal-requires
push_decimal-requires c = omega (arith, c.loop-z.invariant.next, c.loop-z.invariant.short, c.push.ensures.next)

pub loop-z-preserved : goal.loop-z-preserved
loop-z-preserved c =
    let z = get_or c.args.numbers.now c.loop-z.z-index (pos 0) in
    let next = both c.loop-z.invariant (both c.push.ensures (rw (back z (omega arith)) at c.push_decimal.ensures)) in
    rw (spaced_more c.args.numbers.now c.loop-z.z-index (omega arith)) (longer next (omega arith))

pub returns : goal.returns
returns c =
    let all : c.loop-z.z-index ≡ length c.args.numbers.now = omega arith in
    let p = rw (all, take_all (length c.args.numbers.now) c.args.numbers.now (omega arith)) at c.loop-z.invariant in
    p
