-- The parts of all boundaries, and their sums along the chains.
use Rattle.std.specs.Prelude.{Bool, cond, List, ℕ, suc, min, ◌≤◌, ℤ, pos, nat_abs, ◌-ℤ◌, get_or}
use Rattle.meaning.specs.declared.Kw.{Kw}
use Rattle.meaning.specs.declared.Metres.{Metres}
use Rattle.meaning.specs.Rows.{rows}
use Rattle.meaning.specs.Columns.{distance}
use Rattle.meaning.specs.Sharing.{along, shared_part}
use Rattle.chains.specs.Columns.{of_zone, next_in}
use Rattle.boundaries.specs.declared.Split.{Split}
use Rattle.boundaries.specs.Boundaries.{kept, near}

-- the zones that have boundaries: none where the file is not in force
unfoldable pub zones_in : (in_force : Bool) (zones : ℕ) → ℕ
zones_in in_force zones = cond in_force (min zones 32) 0

-- a boundary: a distance up to 2·10^7, and what 32 zones have behind it
pub record PartFits (d : ℤ) (low carbon : ℕ) : Type 0 where
  pub distance : nat_abs d ≤ 20000000
  pub low_carbon : low ≤ 3200000000
  pub high_carbon : carbon ≤ 3200000000

abbrev pub part_in : List ℤ → (zone : ℕ) → ℤ
part_in parts = of_zone (pos 0) (λ i. get_or parts i (pos 0))

pub record PartsFit (parts : List ℤ) : Type 0 where
  pub each : (z : ℕ) → nat_abs (part_in parts z) ≤ 20000000

module _ (next : List ℕ) (zones : ℕ) where
  -- the shared part of each zone's boundary
  unfoldable pub parts_of : (low carbon : List Kw) (metres : List Metres) → List ℤ
  parts_of low carbon metres = rows 32 (λ i. shared_part zones (next_in next) (kept low) (kept carbon) (near metres) (suc i))

  -- one zone, from the parts of all
  unfoldable pub one_of : (parts : List ℤ) (metres : List Metres) → (zone : ℕ) → Split
  one_of parts metres z =
      let shared = along zones (next_in next) (part_in parts) zones z in
      record { shared = distance shared; not_shared = distance (near metres z -ℤ shared) }
