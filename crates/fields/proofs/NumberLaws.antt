-- A range's test, numbers of little-endian bytes and the two's complement of a word, as the standard library has them.
use mathlib.Core.Path.{◌≡◌, refl, ap}
use mathlib.Core.Bool.{cond}
use mathlib.Core.List.{List}
use Prim.Native.Nat.{ℕ, ◌+◌, ◌-◌, ◌^◌, ◌<◌}
use native.Mathlib.Decide.{dec_lt}
use native.Mathlib.Nat.{add-zero, add_assoc}
use native.Mathlib.Omega.{arith}
use borrow.Author.Tests.{lt-ltb, le-ltb}
use lib.Dec.{ltb, leb}
use lib.IntN.{pos, negsuc}
use mir.Syntax.{w32, w64}
use mir.Val.{to_z}
use Rattle.std.specs.Int.{from_le_bytes}
use Rattle.std.specs.List.{slice_index}
use Rattle.meaning.specs.File.{u32, u64}
use Rattle.std.specs.Ordering.{is_le, nat_cmp}
use Rattle.std.proofs.lemmas.Bool.Decides.{nat_tests}

pub le_cmp : (a b : ℕ) → is_le (nat_cmp a b) ≡ leb a b
le_cmp a b = grind (arith, nat_tests)

-- numbers of bytes that are the file's from a place on
module _ (file bytes : List ℕ) (at : ℕ) where
  pub u32_bytes : ((k : ℕ) → k < 4 → slice_index bytes k ≡ slice_index file (at + k)) → from_le_bytes w32 bytes ≡ u32 file at
  unfolding u32
  u32_bytes b = omega (arith, rw add-zero at (b 0 (omega arith)), b 1 (omega arith), b 2 (omega arith), b 3 (omega arith))

  pub u64_bytes : ((k : ℕ) → k < 8 → slice_index bytes k ≡ slice_index file (at + k)) → from_le_bytes w64 bytes ≡ u64 file at
  unfolding u32 u64
  u64_bytes b =
      simp add_assoc
      (omega (
        arith,
        rw add-zero at (b 0 (omega arith)),
        b 1 (omega arith),
        b 2 (omega arith),
        b 3 (omega arith),
        b 4 (omega arith),
        b 5 (omega arith),
        b 6 (omega arith),
        b 7 (omega arith),
      ))

pub signed : (v : ℕ) → to_z w64 v ≡ cond (ltb v (2 ^ 63)) (pos v) (negsuc (2 ^ 64 - 1 - v))
signed v = go (dec_lt v (2 ^ 63))
  where
    go : Dec (v < 2 ^ 63) → to_z w64 v ≡ cond (ltb v (2 ^ 63)) (pos v) (negsuc (2 ^ 64 - 1 - v))
    go (yes h) = rw (lt-ltb v (2 ^ 63) h) refl
    go (no h) = rw (le-ltb v (2 ^ 63) (omega arith)) (ap negsuc (omega arith))
