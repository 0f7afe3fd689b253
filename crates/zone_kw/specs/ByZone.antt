-- Kilowatts by zone, over columns as code has them: what the nodes of zones 1 to 32 add up to.
use Rattle.std.specs.Prelude.{cond, List, ℕ, suc, ◌-◌, min, leb}
use Rattle.meaning.specs.declared.Kw.{Kw}
use Rattle.meaning.specs.Charging.{in_zone}
use Rattle.meaning.specs.Columns.{kilowatts, number_at, kw_at}
use Rattle.meaning.specs.Rows.{◌between◌and◌, rows}

-- a number up to a limit; a larger one counts as none
unfoldable pub kept : (most x : ℕ) → ℕ
kept most x = cond (leb x most) x 0

-- zones 1 to 32 at 0 to 31; 32, which is no row, for a zone that is none of these
unfoldable pub slot_of : (zone : ℕ) → ℕ
slot_of zone = cond (zone between 1 and 32) (zone - 1) 32

-- what the first nodes add up to, zone k + 1 at k; 01, Quantities: kilowatts up to 10^8
abbrev pub zone_sum : (zone : List ℕ) (kw : List Kw) → (nodes : ℕ) → (k : ℕ) → ℕ
zone_sum zone kw nodes k = in_zone nodes (number_at zone) (λ v. kept 100000000 (kw_at kw v)) (suc k)

-- of n nodes, and no more than 256
unfoldable pub by_zone : (n : ℕ) (zone : List ℕ) (kw : List Kw) → List Kw
by_zone n zone kw = rows 32 (λ k. kilowatts (zone_sum zone kw (min n 256) k))
