-- Kilowatts by zone, node by node, and their sizes.
use mathlib.Core.Path.{◌≡◌, refl, sym, ◌∙◌, ap}
use mathlib.Core.Bool.{Bool, true, false, cond, ◌&&◌}
use mathlib.Core.List.{List}
use Prim.Native.Nat.{ℕ, suc, ◌+◌, ◌-◌, ◌*◌, ◌^◌, ◌≤◌, ◌<◌, min}
use native.Mathlib.Decide.{dec_lt}
use native.Mathlib.Omega.{arith}
use borrow.Author.Tests.{eq-eqb, ne_eqb, le-leb, lt-leb}
use lib.Dec.{eqb, leb}
use lib.ListN.{set, replicate}
use Rattle.integers.proofs.Sum.{sum-zero, sum_more, sum_bound}
use Rattle.meaning.specs.declared.Kw.{Kw}
use Rattle.meaning.specs.Columns.{kilowatts, number_at, kw_at}
use Rattle.meaning.specs.Rows.{◌between◌and◌, rows}
use Rattle.meaning.proofs.Rows.{rows_at, rows_past, rows_same, rows_set, rows_none}
use Rattle.meaning.proofs.Says.{agree, says_as, says_eq, says_le, ◌also◌}
use Rattle.zone_kw.specs.ByZone.{kept, slot_of, zone_sum, by_zone}

-- ---- the row of a zone
pub zone_known : (zone : ℕ) → (leb 1 zone && leb zone 32) ≡ true → (1 ≤ zone) × (zone ≤ 32)
zone_known zone = (says_le also says_le).0

-- it is that zone's alone
module _ (zone k : ℕ) (h : k < 32) where
  slot_back : slot_of zone ≡ k → zone ≡ suc k
  unfolding slot_of ◌between◌and◌
  slot_back = go (leb 1 zone && leb zone 32) (zone_known zone)
    where
      go : (b : Bool) → (b ≡ true → (1 ≤ zone) × (zone ≤ 32)) → cond b (zone - 1) 32 ≡ k → zone ≡ suc k
      go true r e = let r = r refl in omega (arith, r.0, r.1)
      go false r e = absurd (omega arith)

  slot_there : zone ≡ suc k → slot_of zone ≡ k
  unfolding slot_of ◌between◌and◌
  slot_there e =
      rw (le-leb 1 zone (omega arith), le-leb zone 32 (omega arith)) (omega arith)

  slot_is : eqb zone (suc k) ≡ eqb (slot_of zone) k
  slot_is = agree _ _ says_eq (says_as says_eq (slot_back, slot_there))

-- ---- a number up to a limit
pub kept_is : (most x : ℕ) → x ≤ most → kept most x ≡ x
unfolding kept
kept_is most x h = rw (le-leb x most h) refl

pub kept_none : (most x : ℕ) → most < x → kept most x ≡ 0
unfolding kept
kept_none most x h = rw (lt-leb x most h) refl

pub kept_low : (most x : ℕ) → kept most x ≤ most
kept_low most x = go (dec_lt most x)
  where
    go : Dec (most < x) → kept most x ≤ most
    go (yes h) = rw (kept_none most x h) (omega arith)
    go (no h) = let l : x ≤ most = omega arith in rw (kept_is most x l) l

-- ---- one pass over the nodes
module _ (zone : List ℕ) (kw : List Kw) where
  abbrev pub sums : ℕ → List Kw
  sums v = rows 32 (λ k. kilowatts (zone_sum zone kw v k))

  pub sums_none : replicate 32 (kilowatts 0) ≡ sums 0
  sums_none = rows_none 32 _ _ (λ k l. ap kilowatts (sum-zero _))

  sums_low : (v k : ℕ) → zone_sum zone kw v k ≤ v * 100000000
  sums_low v k = sum_bound 100000000 v _ (λ i l. at_most (eqb (number_at zone i) (suc k)) (kept 100000000 (kw_at kw i)) (kept_low 100000000 (kw_at kw i)))
    where
      at_most : (b : Bool) (x : ℕ) → x ≤ 100000000 → cond b x 0 ≤ 100000000
      at_most true x l = l
      at_most false x l = omega arith

  module _ (v slot : ℕ) {all : List Kw} (e : all ≡ sums v) where
    sums_here : slot < 32 → kw_at all slot ≡ zone_sum zone kw v slot
    sums_here h = rw e (ap (λ (w : Kw). w.0) (rows_at (kilowatts 0) 32 (λ k. kilowatts (zone_sum zone kw v k)) slot h))

    pub sums_more : {more : ℕ} → slot ≡ slot_of (number_at zone v) → more ≡ kept 100000000 (kw_at kw v) → slot < 32
        → set all slot (kilowatts (kw_at all slot + more)) ≡ sums (v + 1)
    sums_more q w h =
        rw (sums_here h, e, w) (rows_set 32 _ _ slot _ h
        (ap kilowatts (sym (sum_more v _ ∙ rw (slot_is (number_at zone v) slot h, ← q) (simp (eq-eqb slot slot refl)))))
        (λ j l d. ap kilowatts (sym (sum_more v _ ∙ rw (slot_is (number_at zone v) j l, ← q) (simp (ne_eqb slot j (λ p. d (sym p))) (omega arith))))))

    pub sums_past : slot ≡ slot_of (number_at zone v) → 32 ≤ slot → all ≡ sums (v + 1)
    sums_past q h =
        e ∙ rows_same 32 _ _
        (λ j l. ap kilowatts (sym (sum_more v _ ∙ rw (slot_is (number_at zone v) j l, ← q) (simp (ne_eqb slot j (λ p. omega arith)) (omega arith)))))

    -- a sum fits 64 bits, and so does one with a node more
    pub sums_fit : {more : ℕ} → more ≡ kept 100000000 (kw_at kw v) → v < 256 → slot < 32 → kw_at all slot + more < 2 ^ 64
    sums_fit w l h = omega (arith, w, sums_here h, sums_low v slot, kept_low 100000000 (kw_at kw v))

  -- the loop is over
  pub sums_done : (n v : ℕ) {all : List Kw} {end : ℕ} → all ≡ sums v → end ≡ min n 256 → v ≤ end → end ≤ v → all ≡ by_zone n zone kw
  unfolding by_zone
  sums_done n v e m h l = let q : v ≡ min n 256 = omega (arith, m) in rw q at e

  -- of n nodes and no more than 256: zone k + 1, and how much it is at most
  module _ (n k : ℕ) where
    pub zone_at : k < 32 → kw_at (by_zone n zone kw) k ≡ zone_sum zone kw (min n 256) k
    unfolding by_zone
    zone_at = sums_here (min n 256) k refl

    pub zone_low : kw_at (by_zone n zone kw) k ≤ 25600000000
    unfolding by_zone
    zone_low = go (dec_lt k 32)
      where
        go : Dec (k < 32) → kw_at (by_zone n zone kw) k ≤ 25600000000
        go (yes h) = omega (arith, zone_at h, sums_low (min n 256) k)
        go (no h) =
            let z : kw_at (by_zone n zone kw) k ≡ 0 = ap (λ (w : Kw). w.0) (rows_past (kilowatts 0) 32 (λ k. kilowatts (zone_sum zone kw (min n 256) k)) k (omega arith)) in
            omega arith
