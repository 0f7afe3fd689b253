-- `Lengths::of` meets its contract.
use Rattle.std.proofs.Common.{refl}
use Rattle.tables.specs.Order.{lengths_of}
use Rattle.tables.proofs.Lengths.of.Goals as goal

pub returns : goal.returns
unfolding lengths_of
returns c = refl
