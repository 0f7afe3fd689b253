-- The expanded length of a circuit, from the numbers of its row.
use mathlib.Core.Path.{◌≡◌, refl}
use mathlib.Core.Bool.{Bool, true, false, cond, ◌&&◌}
use mathlib.Core.List.{List}
use Prim.Native.Nat.{ℕ, ◌+◌, ◌*◌, ◌≤◌}
use native.Mathlib.Nat.{mul-le-mul}
use native.Mathlib.Omega.{arith}
use lib.Dec.{leb}
use Rattle.meaning.specs.declared.Settings.{Settings}
use Rattle.meaning.specs.Study.{no_circuit}
use Rattle.meaning.specs.File.{u32, factor_at, circuit_at}
use Rattle.meaning.specs.Direction.{overhead_factor, cable_factor, own_or, expanded_length}
use Rattle.meaning.proofs.Says.{◌also◌, says_le}
use Rattle.circuit_table.specs.Lengths.{length_in_range, length_if_in_range, expanded_by}

-- what the two products come to
part_low : {length factor : ℕ} → length ≤ 500000 → factor ≤ 30000 → length * factor ≤ 15000000000
part_low h l = mul-le-mul {n₂ = 500000} {m₂ = 30000} h l

pub parts_low : (overhead over cable under : ℕ) → (leb overhead 500000 && leb cable 500000 && leb over 30000 && leb under 30000) ≡ true
    → (overhead * over ≤ 15000000000) × (cable * under ≤ 15000000000)
parts_low overhead over cable under e =
    let t = (says_le also says_le also says_le also says_le).0 e in
    (part_low t.0.0.0 t.0.1, part_low t.0.0.1 t.1)

-- the length of the circuit at a place
pub length_read : (file : List ℕ) (size at : ℕ) (s : Settings) (voltage overhead cable own over under : ℕ)
    → voltage ≡ u32 file (at + 24) → overhead ≡ u32 file (at + 32) → cable ≡ u32 file (at + 36) → own ≡ factor_at file size at
    → over ≡ own_or own (overhead_factor s voltage) → under ≡ own_or own (cable_factor s voltage)
    → expanded_by overhead over cable under ≡ length_if_in_range s (circuit_at file size at)
unfolding length_if_in_range length_in_range expanded_length circuit_at
length_read file size at s voltage overhead cable own over under v o k w f g = rw (f, g, v, o, k, w) refl

-- a row past the end of the table has no length
pub length_none : (s : Settings) → length_if_in_range s no_circuit ≡ 0
unfolding length_if_in_range expanded_length
length_none s = go (length_in_range s no_circuit) (own_or 0 (overhead_factor s 0)) (own_or 0 (cable_factor s 0))
  where
    go : (b : Bool) (f g : ℕ) → cond b (0 * f + 0 * g) 0 ≡ 0
    go true f g = omega arith
    go false f g = refl
