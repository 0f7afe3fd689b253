use native.Mathlib.Omega.{arith}
use Rattle.supply.proofs.Shares.{product_small}
use Rattle.supply.proofs.scaled.share.Goals as goal

pub overflow_mul-result : goal.overflow_mul-result
overflow_mul-result c = omega (arith, product_small c.args.tec.0 c.args.demand.0 c.requires.0 c.requires.1)
