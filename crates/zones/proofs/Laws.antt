-- The sums of a side's zones, node by node, and their sizes.
use mathlib.Core.Path.{◌≡◌, refl, sym, ◌∙◌, ap}
use mathlib.Core.Bool.{Bool, true, false, cond, ◌&&◌}
use mathlib.Core.List.{List}
use mathlib.Core.Logic.{◌≢◌}
use Prim.Native.Nat.{ℕ, suc, ◌+◌, ◌-◌, ◌*◌, ◌≤◌, ◌<◌}
use native.Mathlib.Omega.{arith}
use borrow.Author.Tests.{eq-eqb, ne_eqb}
use lib.Dec.{eqb, leb}
use lib.IntN.{ℤ, pos, nat_abs, ◌+ℤ◌, ◌*ℤ◌}
use lib.ListN.{length, get_or, set, replicate}
use Rattle.integers.specs.Numbers.{nearest}
use Rattle.integers.proofs.Laws.{add-zero, mul-zero}
use Rattle.integers.proofs.Div.{nearest_within}
use Rattle.integers.proofs.Sum.{sum-zero, sum_more, sum_bound, Σ-zero, Σ-more, Σ-within}
use Rattle.meaning.specs.declared.Kw.{Kw}
use Rattle.meaning.specs.declared.Side.{Side}
use Rattle.meaning.specs.Columns.{kilowatts, number_at, kw_at}
use Rattle.meaning.specs.Proposal.{potential}
use Rattle.meaning.specs.Rows.{rows}
use Rattle.meaning.proofs.Rows.{rows_at, rows_set, rows_none}
use Rattle.meaning.proofs.Says.{agree, says_as, says_eq, says_le, ◌also◌}
use Rattle.zones.specs.declared.ZoneSums.{ZoneSums}
use Rattle.zones.specs.declared.node.Part.{Part}
use Rattle.zones.specs.Sums.{no_part, part_at, far, counts, weighs, pays, sums_to, no_sums, nodes_in, zone_sums, plus, PartFits, SumsFit}
use Rattle.zones.proofs.Parts.{counted, full, part_full, part_none, part_fits}

-- the nodes that are passed
pub reached_all : (n run : ℕ) → n ≤ 256 → n ≤ run → nodes_in n run ≡ n
unfolding nodes_in
reached_all n run few long = rw ((says_le also says_le).1 (few, long)) refl

pub reached_none : (n run : ℕ) → (leb n 256 && leb n run) ≡ false → nodes_in n run ≡ 0
unfolding nodes_in
reached_none n run h = rw h refl

pub reached_most : (n run : ℕ) → (nodes_in n run ≤ 256) × (nodes_in n run ≤ run)
reached_most n run = go (leb n 256 && leb n run) refl
  where
    go : (b : Bool) → (leb n 256 && leb n run) ≡ b → (nodes_in n run ≤ 256) × (nodes_in n run ≤ run)
    go true h = let s = (says_le also says_le).0 h in rw (reached_all n run s.0 s.1) s
    go false h = rw (reached_none n run h) (omega arith, omega arith)

-- zones count from 1
slot_is : (zone k : ℕ) → 1 ≤ zone → eqb (zone - 1) k ≡ eqb zone (suc k)
slot_is zone k h = agree (eqb (zone - 1) k) (eqb zone (suc k)) (says_as {P = zone - 1 ≡ k} {Q = zone ≡ suc k} says_eq (λ (e : zone - 1 ≡ k). omega arith, λ (e : zone ≡ suc k). omega arith)) says_eq

-- a term that a zone takes or leaves
kw_most : (b : Bool) (w most : ℕ) → w ≤ most → cond b w 0 ≤ most
kw_most true w most h = h
kw_most false w most h = omega arith

far_most : (b : Bool) (z : ℤ) (w : ℕ) → nat_abs z ≤ 10000000 * w → nat_abs (cond b z (pos 0)) ≤ 10000000 * cond b w 0
far_most true z w h = h
far_most false z w h = omega arith

-- no kilowatts, whatever the zone
none_either : {A : Type 0} (b c : Bool) (none : A) → cond b none none ≡ cond c none none
none_either true true none = refl
none_either true false none = refl
none_either false true none = refl
none_either false false none = refl

module _ (side : Side) (zone : List ℕ) (weight paying : List Kw) (wider : List ℤ) where
  abbrev part : ℕ → Part
  part = part_at side zone weight paying wider

  abbrev sums : (n k : ℕ) → ZoneSums
  sums n k = sums_to side zone weight paying wider n (suc k)

  pub fits_at : (v : ℕ) → PartFits (part v)
  fits_at v = part_fits side (number_at zone v) (get_or weight v (kilowatts 0)) (get_or paying v (kilowatts 0)) (potential wider v)

  -- what the sums of a zone take of a node is the part that it adds, where that is added
  taken : {A : Type 0} (none : A) (of : Part → A) (mine : Bool → A) → of no_part ≡ none → mine false ≡ none
      → (k v : ℕ) → of (full side (number_at zone v) (get_or weight v (kilowatts 0)) (get_or paying v (kilowatts 0)) (potential wider v)) ≡ mine true
      → cond (eqb (number_at zone v) (suc k)) (mine (counts side zone weight paying wider v)) none ≡ cond (eqb (part v).slot k) (of (part v)) none
  taken none of mine bare out k v own = go (counts side zone weight paying wider v) refl
    where
      go : (b : Bool) → counts side zone weight paying wider v ≡ b
          → cond (eqb (number_at zone v) (suc k)) (mine (counts side zone weight paying wider v)) none ≡ cond (eqb (part v).slot k) (of (part v)) none
      go true h =
          let p = part_full side (number_at zone v) (get_or weight v (kilowatts 0)) (get_or paying v (kilowatts 0)) (potential wider v) h in
          rw (p, h, own, slot_is (number_at zone v) k (counted _ _ _ _ h).least) refl
      go false h =
          let p = part_none side (number_at zone v) (get_or weight v (kilowatts 0)) (get_or paying v (kilowatts 0)) (potential wider v) h in
          rw (p, h, out, bare) (none_either (eqb (number_at zone v) (suc k)) (eqb 0 k) none)

  -- of the sums of zone k + 1
  abbrev weight_of : (k v : ℕ) → ℕ
  weight_of k v = cond (eqb (number_at zone v) (suc k)) (weighs side zone weight paying wider v) 0

  abbrev paying_of : (k v : ℕ) → ℕ
  paying_of k v = cond (eqb (number_at zone v) (suc k)) (pays side zone weight paying wider v) 0

  abbrev weighed_of : (k v : ℕ) → ℤ
  weighed_of k v = cond (eqb (number_at zone v) (suc k)) (far side zone weight paying wider v *ℤ pos (weighs side zone weight paying wider v)) (pos 0)

  weight_of_lem : (k v : ℕ) → weight_of k v ≡ cond (eqb (part v).slot k) (part v).adds.weight.0 0
  weight_of_lem k v = taken 0 (λ (p : Part). p.adds.weight.0) (λ (b : Bool). cond b (kw_at weight v) 0) refl refl k v refl

  paying_of_lem : (k v : ℕ) → paying_of k v ≡ cond (eqb (part v).slot k) (part v).adds.paying.0 0
  paying_of_lem k v = taken 0 (λ (p : Part). p.adds.paying.0) (λ (b : Bool). cond b (kw_at paying v) 0) refl refl k v refl

  weighed_of_lem : (k v : ℕ) → weighed_of k v ≡ cond (eqb (part v).slot k) (part v).adds.weighed (pos 0)
  weighed_of_lem k v =
      taken (pos 0) (λ (p : Part). p.adds.weighed) (λ (b : Bool). far side zone weight paying wider v *ℤ pos (cond b (kw_at weight v) 0)) refl
      (mul-zero (far side zone weight paying wider v)) k v refl

  -- one node more
  sums_more : (v k : ℕ)
      → sums (v + 1) k ≡ record {
        weight = kilowatts ((sums v k).weight.0 + cond (eqb (part v).slot k) (part v).adds.weight.0 0);
        weighed = (sums v k).weighed +ℤ cond (eqb (part v).slot k) (part v).adds.weighed (pos 0);
        paying = kilowatts ((sums v k).paying.0 + cond (eqb (part v).slot k) (part v).adds.paying.0 0);
      }
  unfolding sums_to
  sums_more v k =
      rw (sum_more v (weight_of k), Σ-more v (weighed_of k), sum_more v (paying_of k), weight_of_lem k v, weighed_of_lem k v, paying_of_lem k v) refl

  sums_here : (v : ℕ) → sums (v + 1) (part v).slot ≡ plus (sums v (part v).slot) (part v).adds
  unfolding plus
  sums_here v = sums_more v (part v).slot ∙ rw (eq-eqb (part v).slot (part v).slot refl) refl

  sums_other : (v k : ℕ) → (part v).slot ≢ k → sums (v + 1) k ≡ sums v k
  sums_other v k ne = sums_more v k ∙ rw (ne_eqb (part v).slot k ne) (same (sums v k))
    where
      same : (z : ZoneSums) → record { weight = kilowatts (z.weight.0 + 0); weighed = z.weighed +ℤ pos 0; paying = kilowatts (z.paying.0 + 0) } ≡ z
      same z =
          let w : z.weight.0 + 0 ≡ z.weight.0 = omega arith in
          let p : z.paying.0 + 0 ≡ z.paying.0 = omega arith in
          rw (w, p, add-zero z.weighed) refl

  sums_none : (k : ℕ) → sums 0 k ≡ no_sums
  unfolding sums_to
  sums_none k = rw (sum-zero, Σ-zero, sum-zero)

  pub sums_start : replicate 32 no_sums ≡ rows 32 (sums 0)
  sums_start = rows_none 32 _ no_sums (λ k h. sums_none k)

  pub sums_turn : (v : ℕ) {all : List ZoneSums} {z : ZoneSums} → all ≡ rows 32 (sums v) → z ≡ plus (get_or all (part v).slot no_sums) (part v).adds
      → set all (part v).slot z ≡ rows 32 (sums (v + 1))
  sums_turn v {z = z} e q =
      let l = (fits_at v).slot in
      let at : get_or (rows 32 (sums v)) (part v).slot no_sums ≡ sums v (part v).slot = rows_at no_sums 32 (sums v) (part v).slot l in
      let this : z ≡ sums (v + 1) (part v).slot = q ∙ ap (λ (x : ZoneSums). plus x (part v).adds) (rw e at) ∙ sym (sums_here v) in
      rw e (rows_set 32 (sums v) (sums (v + 1)) (part v).slot z l this (λ j k d. sym (sums_other v j (λ i. d (sym i)))))

  -- sizes, whatever the columns are
  sums_fit : (n k : ℕ) → n ≤ 256 → SumsFit (sums n k)
  unfolding sums_to
  sums_fit n k few =
      let w = sum_bound 100000000 n (weight_of k) (λ v l. rw (weight_of_lem k v) (kw_most (eqb (part v).slot k) (part v).adds.weight.0 100000000 (fits_at v).adds.weight)) in
      let p = sum_bound 100000000 n (paying_of k) (λ v l. rw (paying_of_lem k v) (kw_most (eqb (part v).slot k) (part v).adds.paying.0 100000000 (fits_at v).adds.paying)) in
      record {
        weight = omega (arith, w);
        weighed = Σ-within 10000000 n (weighed_of k) (weight_of k) (λ v l. rw (weighed_of_lem k v, weight_of_lem k v) (far_most (eqb (part v).slot k) (part v).adds.weighed (part v).adds.weight.0 (fits_at v).adds.weighed));
        paying = omega (arith, p);
      }

  pub all_fit : (v k : ℕ) {all : List ZoneSums} → v ≤ 256 → k < 32 → all ≡ rows 32 (sums v) → SumsFit (get_or all k no_sums)
  all_fit v k few l e = rw e (rw (rows_at no_sums 32 (sums v) k l) (sums_fit v k few))

  -- whatever the columns are
  pub zone_fits : (n k : ℕ) → k < 32 → SumsFit (get_or (zone_sums side n zone weight paying wider) k no_sums)
  unfolding zone_sums
  zone_fits n k l = all_fit (nodes_in n (length wider)) k (reached_most n (length wider)).0 l refl

-- an average of distances is within what they are within
pub metres_near : (z : ZoneSums) → SumsFit z → nat_abs (nearest z.weighed z.weight.0) ≤ 10000000
metres_near z f = nearest_within z.weighed 10000000 z.weight.0 f.weighed
