-- 14: totals are added as they are, cut off at 10^8 + 1.
use mathlib.Core.Path.{ap}
use mathlib.Core.List.{List}
use Prim.Native.Nat.{ℕ, ◌≤◌}
use native.Mathlib.Decide.{dec_le}
use native.Mathlib.Omega.{arith}
use Rattle.integers.specs.Numbers.{sum}
use Rattle.meaning.specs.declared.Kw.{Kw}
use Rattle.meaning.specs.Columns.{kw_at}
use Rattle.totals.specs.Totals.{total_of}
use Rattle.totals.proofs.TotalLaws.{many_rows, much, added_up}

pub total_low : (n : ℕ) (column : List Kw) → (total_of n column).0 ≤ 100000001
total_low n column = go (dec_le n 256) (dec_le (sum n (kw_at column)) 100000000)
  where
    go : Dec (n ≤ 256) → Dec (sum n (kw_at column) ≤ 100000000) → (total_of n column).0 ≤ 100000001
    go (yes few) (yes small) = omega (arith, ap (λ (k : Kw). k.0) (added_up n column few small))
    go (yes few) (no large) = omega (arith, ap (λ (k : Kw). k.0) (much n column few (omega arith)))
    go (no many) s = omega (arith, ap (λ (k : Kw). k.0) (many_rows n column (omega arith)))
