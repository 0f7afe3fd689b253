-- The split: the parts add up, a part lies between 0 and its distance, sums go along the chain; and what the split is in plain cases.
use mathlib.Core.Path.{◌≡◌, refl, sym, ◌∙◌, ap}
use mathlib.Core.Logic.{◌≢◌}
use mathlib.Core.Bool.{Bool, true, false, cond, true≢false}
use Prim.Native.Nat.{ℕ, zero, suc, ◌+◌, ◌*◌, ◌-◌, ◌≤◌, ◌<◌}
use native.Mathlib.Nat.{mul-le-mul_left}
use native.Mathlib.Omega.{arith}
use native.Mathlib.Decide.{dec_le}
use lib.Dec.{eqb, leb}
use lib.IntN.{ℤ, pos, negsuc, ◌+ℤ◌, ◌-ℤ◌, ◌*ℤ◌}
use Rattle.integers.specs.Numbers.{floor_div}
use Rattle.integers.proofs.Core.{Z}
use Rattle.integers.proofs.Div.{floor_le, floor_ge, floor_exact}
use Rattle.meaning.specs.Study.{Kw, Metres}
use Rattle.meaning.proofs.Says.{says_eq, says_le}
use Rattle.meaning.specs.Sharing.{after}
use Rattle.meaning.proofs.Chains.{Inward}
use Rattle.meaning.specs.Sharing.{factor_over, factor_under, shared_distance, behind, along, centre_of, boundary, shared_part, not_shared_part, shared_along, not_shared_along}
use Rattle.meaning.specs.Shares.{Between}
use Rattle.meaning.proofs.Chains.{after_zero, after_suc}

-- ---- the factor
pub factor_half : (low carbon : ℕ) → low ≤ carbon → (factor_over low carbon ≡ 1) × (factor_under low carbon ≡ 1)
unfolding factor_over factor_under
factor_half low carbon h = let e = (says_le {m = 2 * low} {n = low + carbon}).1 (omega arith) in (rw e refl, rw e refl)

pub factor_more : (low carbon : ℕ) → carbon < low → (factor_over low carbon ≡ 2 * carbon) × (factor_under low carbon ≡ low + carbon)
unfolding factor_over factor_under
factor_more low carbon h = go (leb (2 * low) (low + carbon)) refl
  where
    go : (b : Bool) → leb (2 * low) (low + carbon) ≡ b → (cond b 1 (2 * (low + carbon) - 2 * low) ≡ 2 * carbon) × (cond b 1 (low + carbon) ≡ low + carbon)
    go true e = absurd (omega (arith, (says_le {m = 2 * low} {n = low + carbon}).0 e))
    go false e = (omega arith, refl)

-- it lies between 0 and 1
pub factor_some : (low carbon : ℕ) → (0 < factor_under low carbon) × (factor_over low carbon ≤ factor_under low carbon)
factor_some low carbon = go (dec_le low carbon)
  where
    go : Dec (low ≤ carbon) → (0 < factor_under low carbon) × (factor_over low carbon ≤ factor_under low carbon)
    go (yes h) = let f = factor_half low carbon h in (omega (arith, f.1), omega (arith, f.0, f.1))
    go (no h) = let f = factor_more low carbon (omega arith) in (omega (arith, f.1), omega (arith, f.0, f.1))

-- ---- a part lies between 0 and its distance
between : (d : ℤ) (a b : ℕ) → 0 < b → a ≤ b → Between d (floor_div (d *ℤ pos a) b)
between (pos n) a b p h =
    record {
      up = λ u. (floor_ge _ (pos 0) b p (simp Z (omega arith)), floor_le _ (pos n) b p (simp Z (omega (arith, mul-le-mul_left n h))));
      down = λ u. let k = simp Z at u in let z : n ≡ 0 = omega arith in (
        floor_ge _ (pos n) b p (simp Z (omega (arith, ap (λ (m : ℕ). m * b) z, ap (λ (m : ℕ). m * a) z))),
        floor_le _ (pos 0) b p (simp Z (omega (arith, ap (λ (m : ℕ). m * a) z))),
      );
    }
between (negsuc n) a b p h =
    record {
      up = λ u. absurd u.le;
      down = λ u. (floor_ge _ (negsuc n) b p (simp Z (omega (arith, mul-le-mul_left (suc n) h))), floor_le _ (pos 0) b p (simp Z (omega arith)));
    }

pub shared_between : (d : Metres) (low carbon : Kw) → Between d (shared_distance d low carbon)
unfolding shared_distance
shared_between d low carbon = let f = factor_some low carbon in between d (factor_over low carbon) (factor_under low carbon) f.0 f.1

-- "1 up to half low carbon": all of it is shared; and none with no carbon at all
pub shared_all : (d : Metres) (low carbon : Kw) → low ≤ carbon → shared_distance d low carbon ≡ d
unfolding shared_distance
shared_all d low carbon h = let f = factor_half low carbon h in rw (f.0, f.1) (ap (λ (z : ℤ). floor_div z 1) (simp Z (omega arith)) ∙ floor_exact d 1 (omega arith))

pub shared_none : (d : Metres) (low carbon : Kw) → carbon ≡ 0 → 1 ≤ low → shared_distance d low carbon ≡ pos 0
unfolding shared_distance
shared_none d low carbon e h =
    let f = factor_more low carbon (omega arith) in
    let o : factor_over low carbon ≡ 0 = omega (arith, f.0) in
    rw o (ap (λ (z : ℤ). floor_div z (factor_under low carbon)) (simp Z (omega arith)) ∙ floor_exact (pos 0) (factor_under low carbon) (factor_some low carbon).0)

-- what code computes: the branch is at low ≤ carbon
pub shared_more : (d : Metres) (low carbon : Kw) → carbon < low → shared_distance d low carbon ≡ floor_div (d *ℤ pos (2 * carbon)) (low + carbon)
unfolding shared_distance
shared_more d low carbon h = let f = factor_more low carbon h in rw (f.0, f.1) refl

module _ (zones : ℕ) (next : ℕ → ℕ) where
  -- ---- along a chain: at its end, and one boundary further out
  pub along_end : (part : ℕ → Metres) (k z : ℕ) → next z ≡ 0 → along zones next part k z ≡ pos 0
  unfolding along
  along_end part zero z e = refl
  along_end part (suc k) z e = rw ((says_eq {m = next z} {n = 0}).1 e) refl

  pub along_on : (part : ℕ → Metres) (k z : ℕ) → next z ≢ 0 → along zones next part (suc k) z ≡ part z +ℤ along zones next part k (next z)
  unfolding along
  along_on part k z h = go (eqb (next z) 0) refl
    where
      go : (b : Bool) → eqb (next z) 0 ≡ b → cond b (pos 0) (part z +ℤ along zones next part k (next z)) ≡ part z +ℤ along zones next part k (next z)
      go true e = absurd (h (says_eq.0 e))
      go false e = refl

  pub along_same : (f g : ℕ → Metres) → ((z : ℕ) → f z ≡ g z) → (k z : ℕ) → along zones next f k z ≡ along zones next g k z
  unfolding along
  along_same f g h zero z = refl
  along_same f g h (suc k) z = rw (h z, along_same f g h k (next z)) refl

  module _ (low carbon : ℕ → Kw) (metres : ℕ → Metres) where
    -- ---- the parts add up, in every zone
    adds : (k z : ℕ) → along zones next (shared_part zones next low carbon metres) k z
        +ℤ (along zones next (not_shared_part zones next low carbon metres) k z +ℤ metres (centre_of zones next k z)) ≡ metres z
    unfolding along centre_of not_shared_part boundary
    adds zero z = simp Z (omega arith)
    adds (suc k) z = go (eqb (next z) 0) (adds k (next z))
      where
        s : ℕ → Metres
        s = shared_part zones next low carbon metres

        n : ℕ → Metres
        n = not_shared_part zones next low carbon metres

        go : (b : Bool) → along zones next s k (next z) +ℤ (along zones next n k (next z) +ℤ metres (centre_of zones next k (next z))) ≡ metres (next z)
            → cond b (pos 0) (s z +ℤ along zones next s k (next z))
            +ℤ (cond b (pos 0) (n z +ℤ along zones next n k (next z)) +ℤ metres (cond b z (centre_of zones next k (next z)))) ≡ metres z
        go true e = simp Z (omega arith)
        go false e = simp Z (omega (arith, simp Z at e))

    -- 02: "Parts along a chain, plus the centre's metres as not shared, add up to the zone's metres."
    pub adds_up : (z : ℕ) → shared_along zones next low carbon metres z +ℤ not_shared_along zones next low carbon metres z ≡ metres z
    unfolding shared_along not_shared_along
    adds_up z = adds zones z

    -- so code need not add the rests up
    pub not_shared_is : (z : ℕ) → metres z -ℤ shared_along zones next low carbon metres z ≡ not_shared_along zones next low carbon metres z
    not_shared_is z = simp Z (omega (arith, simp Z at (adds_up z)))

    -- the centre shares nothing
    pub centre_not_shared : (z : ℕ) → next z ≡ 0 → (shared_along zones next low carbon metres z ≡ pos 0) × (not_shared_along zones next low carbon metres z ≡ metres z)
    unfolding shared_along
    centre_not_shared z e =
        let s = along_end (shared_part zones next low carbon metres) zones z e in
        (s, simp Z (omega (arith, simp Z at (adds_up z), simp Z at s)))

  -- ---- a chain that ends: as many boundaries as it takes, and no more matter
  module _ (i : Inward zones next) where
    pub along_enough : (part : ℕ → Metres) (k m z : ℕ) → after next (suc k) z ≡ 0 → k ≤ m → along zones next part m z ≡ along zones next part k z
    unfolding along
    along_enough part zero m z e h = along_end part m z (ends z e)
      where
        ends : (z : ℕ) → after next 1 z ≡ 0 → next z ≡ 0
        ends z e = sym (after_zero next (next z)) ∙ sym (after_suc next 0 z) ∙ e
    along_enough part (suc k) zero z e h = absurd (omega arith)
    along_enough part (suc k) (suc m) z e h = go (eqb (next z) 0) refl (along_enough part k m (next z) (sym (after_suc next (suc k) z) ∙ e) (omega arith))
      where
        go : (b : Bool) → eqb (next z) 0 ≡ b → along zones next part m (next z) ≡ along zones next part k (next z)
            → along zones next part (suc m) z ≡ along zones next part (suc k) z
        go true q r = along_end part (suc m) z (says_eq.0 q) ∙ sym (along_end part (suc k) z (says_eq.0 q))
        go false q r =
            let f : next z ≢ 0 = λ n. true≢false (sym (says_eq.1 n) ∙ q) in
            along_on part m z f ∙ ap (λ (x : ℤ). part z +ℤ x) r ∙ sym (along_on part k z f)

    -- so where a chain ends: a zone's parts are its own boundary's and those of the next zone inward
    pub along_inward : (part : ℕ → Metres) (z : ℕ) → next z ≢ 0 → after next (suc zones) z ≡ 0
        → along zones next part zones z ≡ part z +ℤ along zones next part zones (next z)
    along_inward part z h e =
        sym (along_enough part zones (suc zones) z e (omega arith)) ∙ along_on part zones z h

  -- ---- plain cases
  module _ (low carbon : ℕ → Kw) (metres : ℕ → Metres) where
    none_along : (f : ℕ → Metres) → ((z : ℕ) → f z ≡ pos 0) → (k z : ℕ) → along zones next f k z ≡ pos 0
    unfolding along
    none_along f h zero z = refl
    none_along f h (suc k) z = go (eqb (next z) 0) (none_along f h k (next z))
      where
        go : (b : Bool) → along zones next f k (next z) ≡ pos 0 → cond b (pos 0) (f z +ℤ along zones next f k (next z)) ≡ pos 0
        go true e = refl
        go false e = rw (h z, e) refl

    -- at most half low carbon behind every boundary: all but the centre's metres is shared
    pub all_shared : ((z : ℕ) → behind zones next low z ≤ behind zones next carbon z) → (z : ℕ)
        → not_shared_along zones next low carbon metres z ≡ metres (centre_of zones next zones z)
    unfolding not_shared_along not_shared_part shared_part
    all_shared h z = rw (none_along _ rest zones z) (simp Z (omega arith))
      where
        rest : (y : ℕ) → boundary zones next low carbon metres y -ℤ shared_distance (boundary zones next low carbon metres y) (behind zones next low y) (behind zones next carbon y) ≡ pos 0
        rest y = rw (shared_all (boundary zones next low carbon metres y) (behind zones next low y) (behind zones next carbon y) (h y)) (simp Z (omega arith))

    -- low carbon alone behind every boundary: nothing is shared
    pub nothing_shared : ((z : ℕ) → (behind zones next carbon z ≡ 0) × (1 ≤ behind zones next low z)) → (z : ℕ)
        → (shared_along zones next low carbon metres z ≡ pos 0) × (not_shared_along zones next low carbon metres z ≡ metres z)
    unfolding shared_along shared_part
    nothing_shared h z =
        let s = none_along _ (λ y. shared_none (boundary zones next low carbon metres y) (behind zones next low y) (behind zones next carbon y) (h y).0 (h y).1) zones z in
        (s, simp Z (omega (arith, simp Z at (adds_up low carbon metres z), simp Z at s)))
