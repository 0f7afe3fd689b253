use native.Mathlib.Omega.{arith}
use Rattle.bits.proofs.Sets.{missing_least}
use Rattle.bits.proofs.first_missing.Goals as goal

pub returns : goal.returns
returns c = missing_least c.args.set c.without.result (omega arith) c.without.ensures c.lowest.ensures c.min.ensures
