-- 02, request 6: "Parts along a chain, plus the centre's metres as not shared, add up to the zone's metres", of a case; and what else is promised of its parts.
use mathlib.Core.Path.{◌≡◌}
use mathlib.Core.Option.{Option, none, some}
use Prim.Native.Nat.{ℕ}
use native.Mathlib.Omega.{arith}
use lib.IntN.{◌+ℤ◌}
use Rattle.integers.proofs.Core.{Z}
use Rattle.meaning.specs.Study.{Metres}
use Rattle.meaning.specs.Sharing.{Sharing, boundary, behind, shared_part, not_shared_metres, shared_metres}
use Rattle.meaning.specs.Charging as charging
use Rattle.meaning.specs.Figures.{basis}
use Rattle.meaning.specs.Shares.{PartsAddUp, PartsBetween}
use Rattle.sharing.proofs.Split.{adds_up, shared_between}

-- with a file in force or without
pub parts_add : (sharing : Option Sharing) (metres : ℕ → Metres) (zone : ℕ) → not_shared_metres sharing metres zone +ℤ shared_metres sharing metres zone ≡ metres zone
unfolding not_shared_metres shared_metres
parts_add none metres zone = simp Z (omega arith)
parts_add (some s) metres zone = simp Z (omega (arith, simp Z at (adds_up s.zones s.next s.low s.carbon metres zone)))

pub parts_add_up : PartsAddUp
unfolding charging.own_metres charging.shared_of charging.priced basis
parts_add_up G runs share side zone = parts_add _ _ zone

pub parts_between : PartsBetween
unfolding shared_part
parts_between zones next low carbon metres z = shared_between (boundary zones next low carbon metres z) (behind zones next low z) (behind zones next carbon z)
