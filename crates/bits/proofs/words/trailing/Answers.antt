use native.Mathlib.Omega.{arith}
use Rattle.bits.proofs.Bits.{lowest_one}
use Rattle.bits.proofs.words.trailing.Goals as goal

pub overflow_cast-result : goal.overflow_cast-result
overflow_cast-result c = omega (arith, lowest_one c.args.word c.requires c.ranges.word.fits)

pub returns : goal.returns
returns c = lowest_one c.args.word c.requires c.ranges.word.fits
