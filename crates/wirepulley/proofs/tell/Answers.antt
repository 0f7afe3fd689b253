-- `wirepulley::tell` meets its contract.
use mathlib.Core.Path.{refl}
use Rattle.wirepulley.proofs.tell.Goals as goal

pub returns : goal.returns
returns c = let e = c.values-carried.ensures in record { number = rw e refl; numbers = rw e refl }
