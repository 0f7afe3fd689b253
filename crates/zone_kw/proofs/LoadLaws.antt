-- TEC times load factor, added up plant type by plant type.
use mathlib.Core.Path.{◌≡◌, refl, sym, ◌∙◌, ap, ap₂}
use mathlib.Core.Bool.{Bool, true, false, cond}
use mathlib.Core.List.{List}
use Prim.Native.Nat.{ℕ, suc, ◌+◌, ◌*◌, ◌/◌, ◌≤◌, ◌<◌}
use native.Mathlib.Nat.{mul-le-mul}
use native.Mathlib.Numerals.{add-one}
use native.Mathlib.Decide.{dec_lt}
use native.Mathlib.Omega.{arith}
use lib.ListN.{replicate, get_or}
use denote.Param.Members.{Mut}
use Rattle.std.proofs.lemmas.List.{ext_get_or}
use Rattle.std.specs.Array.{IsMapOf}
use Rattle.std.specs.Fn.{Called}
use Rattle.integers.proofs.Sum.{sum-zero, sum-suc, sum_bound}
use Rattle.meaning.specs.declared.Kw.{Kw}
use Rattle.meaning.specs.declared.Plant.{Plant}
use Rattle.meaning.specs.Columns.{kilowatts, number_at, kw_at}
use Rattle.meaning.specs.Grid.{plant_of, pays}
use Rattle.meaning.specs.Rows.{rows}
use Rattle.meaning.proofs.Rows.{rows_at, rows_past, rows_same, rows_none, length_rows}
use Rattle.plants.specs.declared.Counted.TheVariants.{Paying, Of}
use Rattle.plants.specs.Counted.{part_of}
use Rattle.station_table.specs.Tec.{by_node}
use Rattle.zone_kw.specs.ByZone.{kept, by_zone}
use Rattle.zone_kw.specs.Load.{load_of, with_type, loaded, shared_kw}
use Rattle.zone_kw.proofs.ZoneLaws.{kept_low, zone_low}

-- ---- one plant type
module _ (plant : Plant) (kw factor : ℕ) where
  pub load_is : part_of Paying plant kw * kept 1000 factor ≡ load_of plant kw factor
  unfolding part_of load_of
  load_is = go (pays plant)
    where
      go : (b : Bool) → cond b kw 0 * kept 1000 factor ≡ cond b (kw * kept 1000 factor) 0
      go true = refl
      go false = omega arith

  pub load_made : {pays scaled : ℕ} → pays ≡ part_of Paying plant kw → scaled ≡ kept 1000 factor → pays * scaled ≡ load_of plant kw factor
  load_made e f = ap₂ ◌*◌ e f ∙ load_is

  pub load_low : kw ≤ 25600000000 → load_of plant kw factor ≤ 25600000000000
  unfolding load_of
  load_low h = go (pays plant)
    where
      go : (b : Bool) → cond b (kw * kept 1000 factor) 0 ≤ 25600000000000
      go true = mul-le-mul h (kept_low 1000 factor)
      go false = omega arith

-- ---- a loop over the zones
module _ (sums : List ℕ) (plant : Plant) (kw : List Kw) (factor : ℕ) where
  -- zone k + 1 with a plant type more
  abbrev pub more : (k : ℕ) → ℕ
  more k = number_at sums k + load_of plant (kw_at kw k) factor

-- ---- a loop over the plant types
module _ (n : ℕ) (zone : List ℕ) (by_type : List Kw) (factors : List ℕ) where
  abbrev sums_to : (types : ℕ) → List ℕ
  sums_to t = rows 32 (loaded n zone by_type factors t)

  pub loaded_none : replicate 32 0 ≡ sums_to 0
  unfolding loaded
  loaded_none = rows_none 32 _ _ (λ k l. sum-zero _)

  loaded_low : (t k : ℕ) → loaded n zone by_type factors t k ≤ t * 25600000000000
  unfolding loaded
  loaded_low t k = sum_bound 25600000000000 t _ (λ i l. load_low (plant_of (suc i)) _ (number_at factors i) (zone_low zone (by_node by_type (Of (plant_of (suc i)))) n k))

  module _ (t : ℕ) {sums : List ℕ} (e : sums ≡ sums_to t) where
    loaded_at : (k : ℕ) → k < 32 → number_at sums k ≡ loaded n zone by_type factors t k
    loaded_at k h = rw e (rows_at 0 32 (loaded n zone by_type factors t) k h)

    pub loaded_fit : t < 7 → (k : ℕ) → number_at sums k ≤ 1000000000000000
    loaded_fit l k = go (dec_lt k 32)
      where
        go : Dec (k < 32) → number_at sums k ≤ 1000000000000000
        go (yes h) = omega (arith, loaded_at k h, loaded_low t k)
        go (no h) =
            let z : number_at sums k ≡ 0 = rw e (rows_past 0 32 (loaded n zone by_type factors t) k (omega arith)) in
            omega arith

    -- one plant type more
    pub loaded_more : {plant : Plant} {at kw : List Kw} {r : List ℕ} → plant ≡ plant_of (suc t) → at ≡ by_node by_type (Of plant) → kw ≡ by_zone n zone at
        → r ≡ with_type sums plant kw (number_at factors t) → r ≡ sums_to (t + 1)
    unfolding with_type loaded
    loaded_more p a b q =
        q ∙ rw (b, a, p, add-one t) (rows_same 32 _ _ (λ k l. rw (loaded_at k l) (sym (sum-suc t _))))

  -- and then kilowatts, rounded down once
  pub shared_rows : {sums : List ℕ} → sums ≡ sums_to 7 → rows 32 (λ k. kilowatts (number_at sums k / 1000)) ≡ shared_kw n zone by_type factors
  unfolding shared_kw
  shared_rows e = rows_same 32 _ _ (λ k l. ap (λ (x : ℕ). kilowatts (x / 1000)) (loaded_at 7 e k l))
