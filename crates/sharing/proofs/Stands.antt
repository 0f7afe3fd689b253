-- A file that stands: no number leads outside, every chain of a zone with TEC ends at the one centre, and no figure is larger than its bound.
use mathlib.Core.Path.{◌≡◌, refl, sym, ◌∙◌}
use mathlib.Core.Logic.{◌≢◌}
use mathlib.Core.Bool.{Bool, true, false, cond, true≢false}
use mathlib.Core.List.{List}
use Prim.Native.Nat.{ℕ, zero, suc, ◌≤◌, ◌<◌}
use native.Mathlib.Omega.{arith}
use native.Mathlib.Decide.{dec_le, dec_lt, ℕ_discrete}
use lib.Dec.{eqb}
use lib.IntN.{nat_abs}
use Rattle.meaning.specs.Study.{Kw, Metres}
use Rattle.meaning.specs.Sharing.{next_inward, after, centre_of, shared_along, not_shared_along}
use Rattle.meaning.specs.Conditions.{Centre, SoundZone}
use Rattle.meaning.proofs.Says.{says_eq}
use Rattle.meaning.proofs.Chains.{next_inward_lem, passes_by, ends_by, after_zero, after_suc}
use Rattle.sharing.proofs.Bounds.{shared_sound, not_shared_sound}

module _ (share : List ℕ) (zones : ℕ) (tec : ℕ → Kw) (stands : (z : ℕ) → 1 ≤ z → z ≤ zones → SoundZone zones tec (next_inward share zones) z) where
  abbrev next : ℕ → ℕ
  next = next_inward share zones

  -- "the one centre": two are one
  pub one_centre : (y z : ℕ) → 1 ≤ y → y ≤ zones → 1 ≤ z → z ≤ zones → Centre zones tec next y → Centre zones tec next z → y ≡ z
  one_centre y z a b c d p q = go (dec_lt y z) (dec_lt z y)
    where
      go : Dec (y < z) → Dec (z < y) → y ≡ z
      go (yes l) k = absurd ((stands z c d).only q y a l p)
      go (no l) (yes k) = absurd ((stands y a b).only p z c k q)
      go (no l) (no k) = omega arith

  outside : (z : ℕ) → (1 ≤ z → z ≤ zones → ⊥) → next z ≡ 0
  outside zero f = (next_inward_lem share zones).none
  outside (suc i) f = (next_inward_lem share zones).past (suc i) (go (dec_le (suc i) zones))
    where
      go : Dec (suc i ≤ zones) → zones < suc i
      go (yes h) = absurd (f (omega arith) h)
      go (no h) = omega arith

  pub closed : (z : ℕ) → next z ≤ zones
  closed z = go (ℕ_discrete (next z) 0) (dec_le 1 z) (dec_le z zones)
    where
      go : Dec (next z ≡ 0) → Dec (1 ≤ z) → Dec (z ≤ zones) → next z ≤ zones
      go (yes e) a b = omega arith
      go (no f) (yes a) (yes b) = ((stands z a b).names f).0
      go (no f) (yes a) (no b) = absurd (f (outside z (λ c d. b d)))
      go (no f) (no a) b = absurd (f (outside z (λ c d. a c)))

  -- the chain of a zone with TEC ends at a centre
  ends_at : (k z : ℕ) → 1 ≤ z → z ≤ zones → 1 ≤ tec z → after next (suc k) z ≡ 0 → Centre zones tec next (centre_of zones next k z)
  unfolding centre_of
  ends_at zero z a b t e = record { kilowatts = t; names_none = sym (after_zero next (next z)) ∙ sym (after_suc next 0 z) ∙ e }
  ends_at (suc k) z a b t e = go (eqb (next z) 0) refl (λ f. ends_at k (next z) (some (next z) f) ((stands z a b).names f).0 ((stands z a b).names f).1 (sym (after_suc next (suc k) z) ∙ e))
    where
      some : (n : ℕ) → n ≢ 0 → 1 ≤ n
      some zero f = absurd (f refl)
      some (suc n) f = omega arith

      go : (c : Bool) → eqb (next z) 0 ≡ c → (next z ≢ 0 → Centre zones tec next (centre_of zones next k (next z)))
          → Centre zones tec next (cond c z (centre_of zones next k (next z)))
      go true q r = record { kilowatts = t; names_none = says_eq.0 q }
      go false q r = r (λ n. true≢false (sym (says_eq.1 n) ∙ q))

  pub chain_ends_at_centre : (z : ℕ) → 1 ≤ z → z ≤ zones → 1 ≤ tec z → Centre zones tec next (centre_of zones next zones z)
  chain_ends_at_centre z a b t =
      let w = passes_by next (stands z a b).ends in
      ends_at zones z a b t (ends_by (next_inward_lem share zones) w.0 z w.1)

  -- ---- bounds of a file that stands
  module _ (low carbon : ℕ → Kw) (metres : ℕ → Metres) (near : (z : ℕ) → nat_abs (metres z) ≤ 10000000) (few : zones ≤ 32) where
    pub shared_stands : (z : ℕ) → 1 ≤ z → z ≤ zones → nat_abs (shared_along zones next low carbon metres z) ≤ 620000000
    shared_stands z a b = shared_sound zones next low carbon metres near (next_inward_lem share zones) closed few z b (stands z a b).ends

    pub not_shared_stands : (z : ℕ) → 1 ≤ z → z ≤ zones → nat_abs (not_shared_along zones next low carbon metres z) ≤ 630000000
    not_shared_stands z a b = not_shared_sound zones next low carbon metres near (next_inward_lem share zones) closed few z b (stands z a b).ends
