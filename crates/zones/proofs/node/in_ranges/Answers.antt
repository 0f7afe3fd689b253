use mathlib.Core.Path.{◌≡◌}
use native.Mathlib.Omega.{arith}
use lib.Dec.{leb}
use lib.IntN.{nat_abs}
use Rattle.integers.proofs.Machine.{back}
use Rattle.meaning.specs.Rows.{◌between◌and◌}
use Rattle.zones.specs.Sums.{in_ranges}
use Rattle.zones.proofs.node.in_ranges.Goals as goal
use Rattle.zones.proofs.node.in_ranges.Goals.{After-within}

-- the distance, as it was read
near : (c : After-within) → c.within.result ≡ leb (nat_abs c.args.distance.0) 10000000
near c = simp (back c.args.distance.0 (omega (arith, c.struct_told-1.given))) at c.within.ensures

pub returns : goal.returns
unfolding in_ranges ◌between◌and◌
returns c = rw (near c)
