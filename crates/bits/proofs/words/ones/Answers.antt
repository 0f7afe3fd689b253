use native.Mathlib.Omega.{arith}
use lib.Count.{ones-le}
use Rattle.bits.proofs.Bits.{ones_sum}
use Rattle.bits.proofs.words.ones.Goals as goal

pub overflow_cast-result : goal.overflow_cast-result
overflow_cast-result c = omega (arith, ones-le 64 c.args.word c.ranges.word.fits)

pub returns : goal.returns
returns c = (ones_sum 64 c.args.word c.ranges.word.fits, ones-le 64 c.args.word c.ranges.word.fits)
