-- 01, What stops a case, 7: totals as far as their range.
use Rattle.std.specs.Prelude.{cond, ◌&&◌, List, ℕ, leb}
use Rattle.integers.specs.Numbers.{sum}
use Rattle.meaning.specs.declared.Kw.{Kw}
use Rattle.meaning.specs.Columns.{kilowatts, kw_at}

-- the total of the first n kilowatts; 10^8 + 1, which 7 refuses, for more than 10^8 of them or for more than 256 rows
unfoldable pub total_of : (n : ℕ) → List Kw → Kw
total_of n column = kilowatts (cond (leb n 256 && leb (sum n (kw_at column)) 100000000) (sum n (kw_at column)) 100000001)
