-- The split over arrays: numbers in range, sums that fit, and parts along a chain.
use mathlib.Core.Path.{◌≡◌, refl, sym, ◌∙◌, ap₂}
use mathlib.Core.Logic.{◌≢◌}
use mathlib.Core.Bool.{Bool, true, false, cond, true≢false}
use mathlib.Core.List.{List}
use mathlib.Core.Option.{none, some}
use Prim.Native.Nat.{ℕ, zero, suc, ◌+◌, ◌*◌, ◌-◌, ◌≤◌, ◌<◌, min}
use native.Mathlib.Omega.{arith}
use native.Mathlib.Decide.{dec_lt}
use borrow.Author.Tests.{lt-ltb}
use lib.Dec.{eqb, leb}
use lib.IntN.{ℤ, pos, nat_abs, ◌+ℤ◌, ◌-ℤ◌, ◌*ℤ◌}
use lib.ListN.{get_or}
use mir.Syntax.{w64}
use mir.Val.{SFits}
use Rattle.integers.specs.Numbers.{sum}
use Rattle.integers.proofs.Core.{Z}
use Rattle.integers.proofs.Laws.{abs-add, abs-sub, abs-mul-le, sfits_abs}
use Rattle.integers.proofs.Sum.{sum_bound}
use Rattle.meaning.specs.declared.Kw.{Kw}
use Rattle.meaning.specs.declared.Metres.{Metres}
use Rattle.meaning.specs.Rows.{rows}
use Rattle.meaning.specs.Columns.{column, kw_at, metres_at, distance}
use Rattle.meaning.specs.Sharing.{passes, shared_distance, behind, along, boundary, shared_part, shared_along, not_shared_along, centre_of, shared_metres, not_shared_metres}
use Rattle.meaning.proofs.Rows.{rows_at, rows_same}
use Rattle.meaning.proofs.Says.{says_le, says_eq}
use Rattle.sharing.proofs.Split.{along_end, along_on, not_shared_is}
use Rattle.sharing.proofs.Bounds.{part_within, along_within}
use Rattle.chains.specs.Columns.{next_in, zone_kw}
use Rattle.chains.proofs.Laws.{zone_row, zone_none, zone_past, zone_holds}
use Rattle.boundaries.specs.declared.Shares.{Shares}
use Rattle.boundaries.specs.declared.Split.{Split}
use Rattle.boundaries.specs.Boundaries.{up_to, close, kept, near, sharing_in, split_of, splits}
use Rattle.boundaries.specs.Parts.{zones_in, PartFits, part_in, PartsFit, parts_of, one_of}

-- a column without an end
column_full : {A : Type 0} (nothing : A) (size : ℕ) (f : ℕ → A) → column nothing size size f ≡ rows size f
unfolding column
column_full nothing size f = rows_same size _ _ (λ i h. simp (lt-ltb i size h))

-- ---- one number
above : (x n : ℕ) → n < x → leb x n ≡ false
above x n h = go (leb x n) refl
  where
    go : (b : Bool) → leb x n ≡ b → b ≡ false
    go true e = absurd (omega (arith, (says_le {m = x} {n = n}).0 e))
    go false e = refl

pub up_in : (x : ℕ) → x ≤ 100000000 → x ≡ up_to x
unfolding up_to
up_in x h = rw ((says_le {m = x} {n = 100000000}).1 h) refl

pub up_out : (x : ℕ) → 100000000 < x → 0 ≡ up_to x
unfolding up_to
up_out x h = rw (above x 100000000 h) refl

pub close_in : (m : ℤ) → nat_abs m ≤ 10000000 → m ≡ close m
unfolding close
close_in m h = rw ((says_le {m = nat_abs m} {n = 10000000}).1 h) refl

pub close_out : (m : ℤ) → 10000000 < nat_abs m → pos 0 ≡ close m
unfolding close
close_out m h = rw (above (nat_abs m) 10000000 h) refl

-- in its range
up_within : (x : ℕ) → up_to x ≤ 100000000
unfolding up_to
up_within x = go (leb x 100000000) refl
  where
    go : (b : Bool) → leb x 100000000 ≡ b → cond b x 0 ≤ 100000000
    go true e = says_le.0 e
    go false e = omega arith

close_within : (m : ℤ) → nat_abs (close m) ≤ 10000000
unfolding close
close_within m = go (leb (nat_abs m) 10000000) refl
  where
    go : (b : Bool) → leb (nat_abs m) 10000000 ≡ b → nat_abs (cond b m (pos 0)) ≤ 10000000
    go true e = says_le.0 e
    go false e = omega arith

pub kept_within : (kw : List Kw) (z : ℕ) → kept kw z ≤ 100000000
kept_within kw z = zone_holds 0 _ (λ x. x ≤ 100000000) (λ i h. up_within (kw_at kw i)) (omega arith) z

pub near_within : (metres : List Metres) (z : ℕ) → nat_abs (near metres z) ≤ 10000000
near_within metres z = zone_holds (pos 0) _ (λ m. nat_abs m ≤ 10000000) (λ i h. close_within (metres_at metres i)) (omega arith) z

-- ---- kilowatts behind a boundary
module _ (zones : ℕ) (next : List ℕ) (kw : List Kw) (b : ℕ) where
  -- what zone i + 1 adds
  abbrev pub adds : ℕ → ℕ
  adds i = cond (passes (next_in next) zones (suc i) b) (kept kw (suc i)) 0

  adds_within : (i : ℕ) → adds i ≤ 100000000
  adds_within i = go (passes (next_in next) zones (suc i) b)
    where
      go : (t : Bool) → cond t (kept kw (suc i)) 0 ≤ 100000000
      go true = kept_within kw (suc i)
      go false = omega arith

  pub sum_within : (i : ℕ) → sum i adds ≤ i * 100000000
  sum_within i = sum_bound 100000000 i adds (λ k h. adds_within k)

  -- one zone more fits
  pub more_fits : (i : ℕ) → i < zones → zones ≤ 32 → sum i adds + adds i < 3200000001
  more_fits i h l = omega (arith, sum_within i, adds_within i)

  pub behind_is : sum zones adds ≡ behind zones (next_in next) (kept kw) b
  unfolding behind
  behind_is = refl

  pub behind_within : zones ≤ 32 → behind zones (next_in next) (kept kw) b ≤ 3200000000
  behind_within h = omega (arith, behind_is, sum_within zones)

-- ---- a boundary's part
pub product_fits : {d : ℤ} {low carbon : ℕ} → PartFits d low carbon → SFits w64 (d *ℤ pos (2 * carbon))
product_fits {d = d} {carbon = carbon} r =
    sfits_abs _ (omega (arith, abs-mul-le d (pos (2 * carbon)) {m = 20000000} {n = 6400000000} r.distance (omega (arith, r.high_carbon))))

module _ (zones : ℕ) (next : List ℕ) (low carbon : List Kw) (metres : List Metres) (z : ℕ) where
  -- its distance
  abbrev pub far : ℤ
  far = near metres z -ℤ near metres (next_in next z)

  pub far_within : nat_abs far ≤ 20000000
  far_within = omega (arith, abs-sub (near metres z) (near metres (next_in next z)), near_within metres z, near_within metres (next_in next z))

  pub far_fits : SFits w64 far
  far_fits = sfits_abs _ (omega (arith, far_within))

  pub part_fits : zones ≤ 32 → PartFits far (behind zones (next_in next) (kept low) z) (behind zones (next_in next) (kept carbon) z)
  part_fits few = record { distance = far_within; low_carbon = behind_within zones next low z few; high_carbon = behind_within zones next carbon z few }

  pub part_is : shared_distance far (behind zones (next_in next) (kept low) z) (behind zones (next_in next) (kept carbon) z)
      ≡ shared_part zones (next_in next) (kept low) (kept carbon) (near metres) z
  unfolding shared_part boundary
  part_is = refl

-- ---- parts along a chain, as the loop has it: `so_far`, and what is left from here
module _ (n : ℕ) (f : ℕ → ℕ) (p : ℕ → ℤ) where
  pub record Going (z k here : ℕ) (so_far : ℤ) : Type 0 where
    pub whole : so_far +ℤ along n f p (n - k) here ≡ along n f p n z
    pub near : nat_abs so_far ≤ 20000000 * k

  pub going_start : (z : ℕ) → Going z 0 z (pos 0)
  going_start z = record { whole = rw (none n) (simp Z (omega arith)); near = omega arith }
    where
      none : (n : ℕ) → n - 0 ≡ n
      none n = omega arith

  -- the chain has ended, or as many boundaries are passed as there can be
  pub going_ended : {z k here : ℕ} {so_far : ℤ} → Going z k here so_far → f here ≡ 0 → so_far ≡ along n f p n z
  going_ended {k = k} {here = here} g e = simp Z (omega (arith, simp Z at g.whole, simp Z at (along_end n f p (n - k) here e)))

  pub going_over : {z k here : ℕ} {so_far : ℤ} → Going z k here so_far → n ≤ k → so_far ≡ along n f p n z
  unfolding along
  going_over {z = z} {k = k} {here = here} {so_far = so_far} g e =
      let q : n - k ≡ 0 = omega arith in
      let w : so_far +ℤ along n f p 0 here ≡ along n f p n z = rw q at g.whole in
      simp Z (omega (arith, simp Z at w))

  -- one boundary more, as the loop has it
  pub going_on : {z k here : ℕ} {so_far : ℤ} → Going z k here so_far → k < n → nat_abs (p here) ≤ 20000000 → {inner : ℕ} {more : ℤ}
      → inner ≡ f here → inner ≢ 0 → more ≡ so_far +ℤ p here → Going z (k + 1) inner more
  going_on {z = z} {k = k} {here = here} {so_far = so_far} g l b e h m =
      let q : n - k ≡ suc (n - (k + 1)) = omega arith in
      let w : so_far +ℤ along n f p (suc (n - (k + 1))) here ≡ along n f p n z = rw q at g.whole in
      let o = along_on n f p (n - (k + 1)) here (λ o. h (e ∙ o)) in
      rw (e, m) (record {
        whole = simp Z (omega (arith, simp Z at w, simp Z at o));
        near = omega (arith, abs-add so_far (p here), g.near);
      })

  pub going_fits : {z k here : ℕ} {so_far : ℤ} → Going z k here so_far → k < 32 → nat_abs (p here) ≤ 20000000 → SFits w64 (so_far +ℤ p here)
  going_fits {here = here} {so_far = so_far} g l b = sfits_abs _ (omega (arith, abs-add so_far (p here), g.near))

pub rest_fits : (zones : ℕ) (next : List ℕ) {parts : List ℤ} (metres : List Metres) → PartsFit parts → zones ≤ 32 → (z : ℕ)
    → SFits w64 (near metres z -ℤ along zones (next_in next) (part_in parts) zones z)
rest_fits zones next {parts = parts} metres fit h z =
    sfits_abs _ (omega (
      arith,
      abs-sub (near metres z) (along zones (next_in next) (part_in parts) zones z),
      near_within metres z,
      along_within zones (next_in next) 20000000 (part_in parts) fit.each zones z,
    ))

-- ---- the parts of all boundaries
module _ (next : List ℕ) (zones : ℕ) (low carbon : List Kw) (metres : List Metres) where
  abbrev part : ℕ → ℤ
  part = shared_part zones (next_in next) (kept low) (kept carbon) (near metres)

  abbrev parts : List ℤ
  parts = parts_of next zones low carbon metres

  -- as a loop makes them
  pub parts_filled : column (pos 0) 32 32 (λ i. part (suc i)) ≡ parts
  unfolding parts_of
  parts_filled = column_full (pos 0) 32 _

  parts_at : (i : ℕ) → i < 32 → get_or parts i (pos 0) ≡ part (suc i)
  unfolding parts_of
  parts_at i h = rows_at (pos 0) 32 _ i h

  pub parts_fit : PartsFit parts
  parts_fit =
      record {
        each = zone_holds (pos 0) _ (λ p. nat_abs p ≤ 20000000)
            (λ i h. rw (parts_at i h) (part_within zones (next_in next) (kept low) (kept carbon) (near metres) (near_within metres) (suc i)))
            (omega arith);
      }

  -- a zone that names one has its part there
  named : (z : ℕ) → next_in next z ≢ 0 → part_in parts z ≡ part z
  named zero h = absurd (h (zone_none 0 _))
  named (suc i) h = go (dec_lt i 32)
    where
      go : Dec (i < 32) → part_in parts (suc i) ≡ part (suc i)
      go (yes l) = zone_row (pos 0) _ i l ∙ parts_at i l
      go (no l) = absurd (h (zone_past 0 _ (suc i) (omega arith)))

  -- and a sum along a chain looks at no others
  along_parts : (k z : ℕ) → along zones (next_in next) (part_in parts) k z ≡ along zones (next_in next) part k z
  unfolding along
  along_parts zero z = refl
  along_parts (suc k) z = go (eqb (next_in next z) 0) refl (along_parts k (next_in next z))
    where
      go : (b : Bool) → eqb (next_in next z) 0 ≡ b → along zones (next_in next) (part_in parts) k (next_in next z) ≡ along zones (next_in next) part k (next_in next z)
          → cond b (pos 0) (part_in parts z +ℤ along zones (next_in next) (part_in parts) k (next_in next z)) ≡ cond b (pos 0) (part z +ℤ along zones (next_in next) part k (next_in next z))
      go true e r = refl
      go false e r = ap₂ ◌+ℤ◌ (named z (λ o. true≢false (sym (says_eq.1 o) ∙ e))) r

-- ---- zones that have boundaries
module _ (b : Bool) (zones : ℕ) where
  pub zones_few : zones_in b zones ≤ 32
  unfolding zones_in
  zones_few = go b
    where
      go : (t : Bool) → cond t (min zones 32) 0 ≤ 32
      go true = omega arith
      go false = omega arith

  pub zones_all_lem : b ≡ true → (n : ℕ) → n ≡ min zones 32 → n ≡ zones_in b zones
  unfolding zones_in
  zones_all_lem e n q = rw e q

  pub zones_none : b ≡ false → 0 ≡ zones_in b zones
  unfolding zones_in
  zones_none e = rw e refl

-- ---- 02's split. Where nothing is shared it is that of no zones with boundaries
module _ (s : Shares) (zones : ℕ) (metres : List Metres) (z : ℕ) where
  abbrev count : ℕ
  count = zones_in s.in_force zones

  pub shared_is : shared_along count (next_in s.next) (kept s.low) (kept s.carbon) (near metres) z ≡ shared_metres (sharing_in s zones) (near metres) z
  unfolding zones_in sharing_in shared_metres shared_along along
  shared_is = go s.in_force
    where
      go : (b : Bool) → shared_along (cond b (min zones 32) 0) (next_in s.next) (kept s.low) (kept s.carbon) (near metres) z
          ≡ shared_metres (cond b (some (record { zones = min zones 32; next = next_in s.next; low = kept s.low; carbon = kept s.carbon; kw = zone_kw s.kw })) none) (near metres) z
      go true = refl
      go false = refl

  pub not_shared_as : not_shared_along count (next_in s.next) (kept s.low) (kept s.carbon) (near metres) z ≡ not_shared_metres (sharing_in s zones) (near metres) z
  unfolding zones_in sharing_in not_shared_metres not_shared_along along centre_of
  not_shared_as = go s.in_force
    where
      go : (b : Bool) → not_shared_along (cond b (min zones 32) 0) (next_in s.next) (kept s.low) (kept s.carbon) (near metres) z
          ≡ not_shared_metres (cond b (some (record { zones = min zones 32; next = next_in s.next; low = kept s.low; carbon = kept s.carbon; kw = zone_kw s.kw })) none) (near metres) z
      go true = refl
      go false = simp Z (omega arith)

  pub one_is : one_of s.next count (parts_of s.next count s.low s.carbon metres) metres z ≡ split_of (sharing_in s zones) (near metres) z
  unfolding one_of split_of shared_along
  one_is =
      let e = along_parts s.next count s.low s.carbon metres count z in
      rw (e, ← shared_is, ← not_shared_as, ← not_shared_is count (next_in s.next) (kept s.low) (kept s.carbon) (near metres) z) refl

abbrev pub no_split : Split
no_split = record { shared = distance (pos 0); not_shared = distance (pos 0) }

-- as a loop makes them
pub splits_are : (s : Shares) (zones : ℕ) (metres : List Metres) {n : ℕ} {parts : List ℤ} → n ≡ zones_in s.in_force zones → parts ≡ parts_of s.next n s.low s.carbon metres
    → column no_split 32 32 (λ i. one_of s.next n parts metres (suc i)) ≡ splits s zones metres
unfolding splits
splits_are s zones metres e q = column_full no_split 32 _ ∙ rows_same 32 _ _ (λ i h. rw (q, e) (one_is s zones metres (suc i)))
