-- How large the parts get, from 01's ranges: metres up to 10^7, 32 zones, constant up to 10,000, factor up to 5,000.
use mathlib.Core.Path.{◌≡◌, refl}
use mathlib.Core.Logic.{◌⊎◌, inl, inr}
use mathlib.Core.Bool.{Bool, true, false, cond}
use Prim.Native.Nat.{ℕ, zero, suc, ◌*◌, ◌≤◌}
use native.Mathlib.Omega.{arith}
use lib.Dec.{eqb}
use lib.IntN.{ℤ, pos, nat_abs, ◌+ℤ◌, ◌-ℤ◌, ◌*ℤ◌}
use lib.Signed.{◌≤ℤ◌, ◌<ℤ◌}
use Rattle.integers.proofs.Core.{Z, abs_parts}
use Rattle.integers.proofs.Laws.{abs-add, abs-sub, abs-mul-le, le-or-lt, le_of_lt}
use Rattle.integers.proofs.Div.{nearest_within}
use Rattle.meaning.specs.Study.{Kw, Metres}
use Rattle.meaning.specs.Charging.{tariff}
use Rattle.meaning.specs.Sharing.{after, Passes, behind, along, boundary, shared_part, not_shared_part, shared_along, not_shared_along}
use Rattle.meaning.specs.Shares.{Between}
use Rattle.meaning.proofs.Chains.{Inward, passes_by, ends_in}
use Rattle.sharing.proofs.Split.{shared_between, along_enough, not_shared_is}

-- a part, and its rest, are no larger than the distance
pub between_abs : (d s : ℤ) → Between d s → (nat_abs s ≤ nat_abs d) × (nat_abs (d -ℤ s) ≤ nat_abs d)
between_abs d s b = go (le-or-lt (pos 0) d)
  where
    go : (pos 0 ≤ℤ d) ⊎ (d <ℤ pos 0) → (nat_abs s ≤ nat_abs d) × (nat_abs (d -ℤ s) ≤ nat_abs d)
    go (inl h) =
        let t = b.up h in
        (simp Z (omega (arith, abs_parts d, simp Z at h, simp Z at t.0, simp Z at t.1)), simp Z (omega (arith, abs_parts d, simp Z at h, simp Z at t.0, simp Z at t.1)))
    go (inr h) =
        let t = b.down (le_of_lt h) in
        (simp Z (omega (arith, abs_parts d, simp Z at h, simp Z at t.0, simp Z at t.1)), simp Z (omega (arith, abs_parts d, simp Z at h, simp Z at t.0, simp Z at t.1)))

module _ (zones : ℕ) (next : ℕ → ℕ) where
  pub along_within : (b : ℕ) (part : ℕ → Metres) → ((z : ℕ) → nat_abs (part z) ≤ b) → (k z : ℕ) → nat_abs (along zones next part k z) ≤ k * b
  unfolding along
  along_within b part h zero z = omega arith
  along_within b part h (suc k) z = go (eqb (next z) 0) (along_within b part h k (next z))
    where
      go : (t : Bool) → nat_abs (along zones next part k (next z)) ≤ k * b → nat_abs (cond t (pos 0) (part z +ℤ along zones next part k (next z))) ≤ suc k * b
      go true e = omega arith
      go false e = omega (arith, abs-add (part z) (along zones next part k (next z)), h z)

  module _ (low carbon : ℕ → Kw) (metres : ℕ → Metres) (near : (z : ℕ) → nat_abs (metres z) ≤ 10000000) where
    pub boundary_within : (z : ℕ) → nat_abs (boundary zones next low carbon metres z) ≤ 20000000
    unfolding boundary
    boundary_within z = omega (arith, abs-sub (metres z) (metres (next z)), near z, near (next z))

    pub part_within : (z : ℕ) → nat_abs (shared_part zones next low carbon metres z) ≤ 20000000
    unfolding shared_part
    part_within z = omega (arith, boundary_within z, (between_abs _ _ (shared_between (boundary zones next low carbon metres z) (behind zones next low z) (behind zones next carbon z))).0)

    pub rest_within : (z : ℕ) → nat_abs (not_shared_part zones next low carbon metres z) ≤ 20000000
    unfolding not_shared_part shared_part
    rest_within z = omega (arith, boundary_within z, (between_abs _ _ (shared_between (boundary zones next low carbon metres z) (behind zones next low z) (behind zones next carbon z))).1)

    -- of any numbers, as code has it
    pub shared_within : zones ≤ 32 → (z : ℕ) → nat_abs (shared_along zones next low carbon metres z) ≤ 640000000
    unfolding shared_along
    shared_within h z = omega (arith, along_within 20000000 (shared_part zones next low carbon metres) part_within zones z)

    pub not_shared_within : zones ≤ 32 → (z : ℕ) → nat_abs (not_shared_along zones next low carbon metres z) ≤ 650000000
    not_shared_within h z = rw (← not_shared_is zones next low carbon metres z) (omega (arith, abs-sub (metres z) (shared_along zones next low carbon metres z), near z, shared_within h z))

    -- of a file that stands: a chain has at most 31 boundaries
    pub shared_sound : Inward zones next → ((z : ℕ) → next z ≤ zones) → zones ≤ 32 → (z : ℕ) → z ≤ zones → Passes next z 0
        → nat_abs (shared_along zones next low carbon metres z) ≤ 620000000
    unfolding shared_along
    shared_sound i closed h z l e = go zones h refl
      where
        go : (n : ℕ) → n ≤ 32 → zones ≡ n → nat_abs (along zones next (shared_part zones next low carbon metres) zones z) ≤ 620000000
        go zero h q = omega (arith, along_within 20000000 (shared_part zones next low carbon metres) part_within zones z)
        go (suc n) h q =
            let w = passes_by next e in
            let f : after next (suc n) z ≡ 0 = rw q at (ends_in i closed w.0 z l w.1) in
            let g = along_enough zones next i (shared_part zones next low carbon metres) n zones z f (omega arith) in
            rw g (omega (arith, along_within 20000000 (shared_part zones next low carbon metres) part_within n z))

    pub not_shared_sound : Inward zones next → ((z : ℕ) → next z ≤ zones) → zones ≤ 32 → (z : ℕ) → z ≤ zones → Passes next z 0
        → nat_abs (not_shared_along zones next low carbon metres z) ≤ 630000000
    not_shared_sound i closed h z l e =
        rw (← not_shared_is zones next low carbon metres z) (omega (arith, abs-sub (metres z) (shared_along zones next low carbon metres z), near z, shared_sound i closed h z l e))

-- a tariff: 500 micro-pounds a metre at most
pub tariff_within : (b : ℕ) (m : Metres) (constant factor : ℕ) → nat_abs m ≤ b → constant ≤ 10000 → factor ≤ 5000 → nat_abs (tariff m constant factor) ≤ 500 * b
unfolding tariff
tariff_within b m constant factor h k l =
    nearest_within _ (500 * b) 100000
    (omega (arith, abs-mul-le (m *ℤ pos constant) (pos factor) {m = b * 10000} {n = 5000} (abs-mul-le m (pos constant) h k) l))
