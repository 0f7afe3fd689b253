-- One digit, or those before the last and the last.
use native.Mathlib.Omega.{arith}
use Rattle.lines.proofs.Making.{both, within}
use Rattle.lines.proofs.Numbers.{natural_one_length, natural_more_length}
use Rattle.sizes.proofs.Widths.{natural_one, natural_more}
use Rattle.lines.proofs.digits.+push_natural.Goals as goal

pub push-requires : goal.push-requires
push-requires t c = omega (arith, natural_one_length c.args.n (omega arith))

pub returns-then-n-lt10 : goal.returns-then-n-lt10
returns-then-n-lt10 t c = rw (natural_one c.args.n (omega arith)) c.push.ensures

pub push_natural-requires : goal.push_natural-requires
push_natural-requires t c = omega (arith, natural_more_length c.args.n (omega arith))

pub push-requires-2 : goal.push-requires-2
push-requires-2 t c = omega (arith, natural_more_length c.args.n (omega arith), c.push_natural.ensures.next)

pub returns : goal.returns
returns t c =
    rw (natural_more c.args.n (omega arith)) (within (both c.push_natural.ensures c.push-2.ensures) (omega arith))
