-- What a share file says of a case and the split of its zones' metres, over arrays of 32 as code has them: row i is zone i + 1. A number out of 01's ranges counts as nothing.
use Rattle.std.specs.Prelude.{cond, false, List, ℕ, suc, min, leb, ℤ, pos, nat_abs, replicate}
use Rattle.std.proofs.Math.Option.{Option, none, some}
use Rattle.meaning.specs.declared.Kw.{Kw}
use Rattle.meaning.specs.declared.Metres.{Metres}
use Rattle.meaning.specs.Rows.{rows}
use Rattle.meaning.specs.Columns.{kilowatts, kw_at, metres_at, distance}
use Rattle.meaning.specs.Sharing.{Sharing, shared_metres, not_shared_metres}
use Rattle.chains.specs.Columns.{of_zone, next_in, zone_kw}
use Rattle.boundaries.specs.declared.Shares.{Shares}
use Rattle.boundaries.specs.declared.Split.{Split}

-- of a file that is not in force, and of a side that shares nothing
abbrev pub no_shares : Shares
no_shares =
    record {
      in_force = false;
      next = replicate 32 0;
      low = replicate 32 (kilowatts 0);
      carbon = replicate 32 (kilowatts 0);
      kw = replicate 32 (kilowatts 0);
    }

-- kilowatts up to 10^8, metres up to 10^7
unfoldable pub up_to : ℕ → ℕ
up_to x = cond (leb x 100000000) x 0

unfoldable pub close : ℤ → ℤ
close m = cond (leb (nat_abs m) 10000000) m (pos 0)

-- of a zone
abbrev pub kept : List Kw → (zone : ℕ) → ℕ
kept kw = of_zone 0 (λ i. up_to (kw_at kw i))

abbrev pub near : List Metres → (zone : ℕ) → ℤ
near metres = of_zone (pos 0) (λ i. close (metres_at metres i))

-- what the file says of the case, where it is in force; no more than 32 zones
unfoldable pub sharing_in : Shares → (zones : ℕ) → Option Sharing
sharing_in s zones =
    cond s.in_force
    (some (record {
      zones = min zones 32;
      next = next_in s.next;
      low = kept s.low;
      carbon = kept s.carbon;
      kw = zone_kw s.kw;
    })) none

-- 02's split of a zone's metres
unfoldable pub split_of : Option Sharing → (metres : ℕ → ℤ) → (zone : ℕ) → Split
split_of sharing metres zone =
    record {
      shared = distance (shared_metres sharing metres zone);
      not_shared = distance (not_shared_metres sharing metres zone);
    }

unfoldable pub splits : Shares → (zones : ℕ) → List Metres → List Split
splits s zones metres = rows 32 (λ i. split_of (sharing_in s zones) (near metres) (suc i))
