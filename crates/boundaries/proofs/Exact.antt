-- What callers learn of the split: its rows, how large they get whatever the arrays hold, and that in 01's ranges nothing is left out.
use mathlib.Core.Path.{◌≡◌, refl, sym}
use mathlib.Core.Bool.{cond}
use mathlib.Core.List.{List}
use mathlib.Core.Option.{none, some}
use Prim.Native.Nat.{ℕ, suc, ◌≤◌, ◌<◌, min}
use native.Mathlib.Omega.{arith}
use lib.IntN.{ℤ, pos, nat_abs}
use lib.ListN.{get_or}
use Rattle.meaning.specs.declared.Kw.{Kw}
use Rattle.meaning.specs.declared.Metres.{Metres}
use Rattle.meaning.specs.Columns.{kw_at, metres_at}
use Rattle.meaning.specs.Sharing.{next_inward, shared_metres, not_shared_metres}
use Rattle.meaning.proofs.Rows.{rows_at}
use Rattle.sharing.proofs.Bounds.{shared_within, not_shared_within}
use Rattle.chains.specs.Columns.{next_in, zone_kw, inward_of}
use Rattle.chains.proofs.Laws.{OnlyZones, zone_is, same_next}
use Rattle.boundaries.specs.declared.Shares.{Shares}
use Rattle.boundaries.specs.declared.Split.{Split}
use Rattle.boundaries.specs.Boundaries.{kept, near, sharing_in, split_of, splits}
use Rattle.boundaries.proofs.Laws.{up_in, close_in, near_within, zones_few, shared_is, not_shared_as}

-- row i is zone i + 1
pub split_at : (s : Shares) (zones : ℕ) (metres : List Metres) (d : Split) (i : ℕ) → i < 32 → get_or (splits s zones metres) i d ≡ split_of (sharing_in s zones) (near metres) (suc i)
unfolding splits
split_at s zones metres d i h = rows_at d 32 _ i h

-- ---- bounds
pub record Most (r : Split) : Type 0 where
  pub shared : nat_abs r.shared.0 ≤ 640000000
  pub not_shared : nat_abs r.not_shared.0 ≤ 650000000

module _ (s : Shares) (zones : ℕ) (metres : List Metres) where
  pub shared_most : (z : ℕ) → nat_abs (shared_metres (sharing_in s zones) (near metres) z) ≤ 640000000
  shared_most z =
      rw (← shared_is s zones metres z) (shared_within _ (next_in s.next) (kept s.low) (kept s.carbon) (near metres) (near_within metres) (zones_few s.in_force zones) z)

  pub not_shared_most : (z : ℕ) → nat_abs (not_shared_metres (sharing_in s zones) (near metres) z) ≤ 650000000
  not_shared_most z =
      rw (← not_shared_as s zones metres z) (not_shared_within _ (next_in s.next) (kept s.low) (kept s.carbon) (near metres) (near_within metres) (zones_few s.in_force zones) z)

  -- of every row
  pub splits_most : (d : Split) (i : ℕ) → i < 32 → Most (get_or (splits s zones metres) i d)
  unfolding split_of
  splits_most d i h = rw (split_at s zones metres d i h) (record { shared = shared_most (suc i); not_shared = not_shared_most (suc i) })

-- ---- in 01's ranges
pub kept_is : (kw : List Kw) {f : ℕ → ℕ} → OnlyZones 0 f → ((z : ℕ) → f z ≤ 100000000) → ((i : ℕ) → i < 32 → kw_at kw i ≡ f (suc i)) → kept kw ≡ f
kept_is kw {f = f} only low h = zone_is 0 _ only (λ i l. rw (h i l) (sym (up_in (f (suc i)) (low (suc i)))))

pub near_is : (metres : List Metres) {f : ℕ → ℤ} → OnlyZones (pos 0) f → ((z : ℕ) → nat_abs (f z) ≤ 10000000) → ((i : ℕ) → i < 32 → metres_at metres i ≡ f (suc i)) → near metres ≡ f
near_is metres {f = f} only low h = zone_is (pos 0) _ only (λ i l. rw (h i l) (sym (close_in (f (suc i)) (low (suc i)))))

-- the file's numbers and these quantities are what the arrays say
pub sharing_is : (s : Shares) (share : List ℕ) (zones : ℕ) (low carbon kw : ℕ → ℕ) → zones ≤ 32 → s.next ≡ inward_of share zones → kept s.low ≡ low → kept s.carbon ≡ carbon → zone_kw s.kw ≡ kw
    → sharing_in s zones ≡ cond s.in_force (some (record { zones = zones; next = next_inward share zones; low = low; carbon = carbon; kw = kw })) none
unfolding sharing_in
sharing_is s share zones low carbon kw few e l c k =
    let n : min zones 32 ≡ zones = omega arith in
    rw (n, e, l, c, k, same_next share zones few) refl
