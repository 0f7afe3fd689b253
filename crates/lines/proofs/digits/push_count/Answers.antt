-- A u64 has at most 20 digits.
use native.Mathlib.Omega.{arith}
use Rattle.lines.proofs.Making.{both, longer}
use Rattle.lines.proofs.Numbers.{natural_u64}
use Rattle.lines.proofs.digits.push_count.Goals as goal

pub push_natural-requires : goal.push_natural-requires
push_natural-requires c = omega (arith, c.push.ensures.next, natural_u64 c.args.n (omega arith))

pub returns : goal.returns
returns c = longer (both c.push.ensures c.push_natural.ensures) (omega (arith, natural_u64 c.args.n (omega arith)))
