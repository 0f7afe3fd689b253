use Rattle.bits.proofs.Bits.{bit_less}
use Rattle.bits.proofs.words.less.Goals as goal

pub returns : goal.returns
returns c k = bit_less c.args.word c.args.other k c.ranges.word.fits c.ranges.other.fits
