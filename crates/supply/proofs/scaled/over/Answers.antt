use native.Mathlib.Omega.{arith}
use Rattle.std.proofs.Common.{rules, tests}
use Rattle.supply.proofs.Shares.{product_small}
use Rattle.supply.proofs.scaled.over.Goals as goal

pub overflow_mul-tec : goal.overflow_mul-tec
overflow_mul-tec c = omega (arith, product_small c.args.tec.0 c.args.demand.0 c.requires.0 c.requires.1)

pub returns : goal.returns
returns c = search (rules, tests)
