-- Columns that hold a grid's numbers: kilowatts by zone, and those of the shared tariff, are the grid's.
use mathlib.Core.Path.{◌≡◌, refl, sym, ◌∙◌, ap, ap₂}
use mathlib.Core.Bool.{Bool, true, false, cond}
use mathlib.Core.List.{List}
use mathlib.Core.Logic.{◌≢◌}
use Prim.Native.Nat.{ℕ, zero, suc, ◌*◌, ◌-◌, ◌/◌, ◌≤◌, ◌<◌, min}
use native.Mathlib.Decide.{dec_lt}
use native.Mathlib.Nat.{le_trans}
use native.Mathlib.Omega.{arith}
use borrow.Author.Tests.{ne_eqb, le-leb, lt-leb}
use lib.Dec.{eqb}
use lib.ListN.{length}
use Rattle.integers.specs.Numbers.{sum}
use Rattle.integers.proofs.Sum.{sum_same, sum_none, sum_item}
use Rattle.meaning.specs.declared.Kw.{Kw}
use Rattle.meaning.specs.declared.Plant.{Plant}
use Rattle.meaning.specs.declared.Side.TheVariants.{Generation}
use Rattle.meaning.specs.Charging.{in_zone}
use Rattle.meaning.specs.Columns.{kilowatts, number_at, kw_at}
use Rattle.meaning.specs.Conditions.{InRange}
use Rattle.meaning.specs.Figures.{zone_of, weight, zone_weight, zone_tec_of, zone_tec, loaded_kw}
use Rattle.meaning.specs.Grid.{Grid, plant_of, pays, tec_of, node_tec}
use Rattle.meaning.specs.Rows.{◌between◌and◌}
use Rattle.meaning.proofs.Plants.{capacity_at, tec_le, all_weigh}
use Rattle.meaning.proofs.Rows.{rows_at}
use Rattle.plants.specs.declared.Counted.TheVariants.{Of}
use Rattle.station_table.specs.Tec.{by_node}
use Rattle.zone_kw.specs.ByZone.{kept, by_zone}
use Rattle.zone_kw.specs.Load.{type_kw, load_of, loaded, shared_kw}
use Rattle.zone_kw.proofs.ZoneLaws.{kept_is, zone_at}

-- the generation zones of a grid's nodes, as a column; no node has more TEC than a case may have in all
pub record ZonesOf (G : Grid) (n : ℕ) (zone : List ℕ) : Type 0 where
  pub nodes : n ≡ length G.nodes
  pub few : n ≤ 256
  pub zone_is : (v : ℕ) → v < n → number_at zone v ≡ zone_of G Generation v
  pub ranged : (v : ℕ) → v < n → InRange (zone_of G Generation v) 1 32
  pub small : (v : ℕ) → v < n → node_tec G v ≤ 100000000

-- an array by zone, by the zone's number: nothing of what is none of zones 1 to 32
abbrev pub at_zone : List Kw → (zone : ℕ) → ℕ
at_zone kw zone = cond (zone between 1 and 32) (kw_at kw (zone - 1)) 0

-- zones 1 to 32, and all other numbers
by_number : (kw : List Kw) (f : ℕ → ℕ) → ((k : ℕ) → k < 32 → kw_at kw k ≡ f (suc k)) → f 0 ≡ 0 → ((z : ℕ) → 32 < z → f z ≡ 0) → (z : ℕ) → at_zone kw z ≡ f z
unfolding ◌between◌and◌
by_number kw f h none past zero = sym none
by_number kw f h none past (suc k) = go (dec_lt k 32)
  where
    go : Dec (k < 32) → at_zone kw (suc k) ≡ f (suc k)
    go (yes l) =
        let e : suc k - 1 ≡ k = omega arith in
        rw (le-leb 1 (suc k) (omega arith), le-leb (suc k) 32 (omega arith), e) (h k l)
    go (no l) = rw (le-leb 1 (suc k) (omega arith), lt-leb (suc k) 32 (omega arith)) (sym (past (suc k) (omega arith)))

module _ {G : Grid} {n : ℕ} {zone : List ℕ} (o : ZonesOf G n zone) where
  abbrev grid : (ℕ → ℕ) → (z : ℕ) → ℕ
  grid f z = in_zone (length G.nodes) (zone_of G Generation) f z

  -- no node is in another zone
  outside : (f : ℕ → ℕ) (z : ℕ) → ((v : ℕ) → v < n → zone_of G Generation v ≢ z) → grid f z ≡ 0
  outside f z h = sum_none (length G.nodes) _ (λ v l. rw (ne_eqb (zone_of G Generation v) z (h v (omega (arith, o.nodes)))) refl)

  in_none : (f : ℕ → ℕ) → grid f 0 ≡ 0
  in_none f = outside f 0 (λ v h e. omega (arith, (o.ranged v h).least))

  past_all : (f : ℕ → ℕ) (z : ℕ) → 32 < z → grid f z ≡ 0
  past_all f z l = outside f z (λ v h e. omega (arith, (o.ranged v h).most))

  -- ---- a column of kilowatts that are some of each node's TEC
  module _ (kw : List Kw) (f : ℕ → ℕ) (same : (v : ℕ) → v < n → kw_at kw v ≡ f v) (low : (v : ℕ) → v < n → f v ≤ node_tec G v) where
    pub zone_row : (k : ℕ) → k < 32 → kw_at (by_zone n zone kw) k ≡ grid f (suc k)
    zone_row k l =
        let m : min n 256 ≡ n = omega (arith, o.few) in
        zone_at zone kw n k l
        ∙ rw m (sum_same n _ _ (λ v h. ap₂ (λ (z x : ℕ). cond (eqb z (suc k)) x 0) (o.zone_is v h) (one v h)))
        ∙ ap (λ (m : ℕ). in_zone m (zone_of G Generation) f (suc k)) o.nodes
      where
        one : (v : ℕ) → v < n → kept 100000000 (kw_at kw v) ≡ f v
        one v h = ap (kept 100000000) (same v h) ∙ kept_is 100000000 (f v) (le_trans (low v h) (o.small v h))

    pub by_zone_is : (z : ℕ) → at_zone (by_zone n zone kw) z ≡ grid f z
    by_zone_is = by_number (by_zone n zone kw) (grid f) zone_row (in_none f) (past_all f)

  -- all TEC, and that of the plant types that pass a test
  pub all_by_zone : (kw : List Kw) → ((v : ℕ) → v < n → kw_at kw v ≡ node_tec G v) → (z : ℕ) → at_zone (by_zone n zone kw) z ≡ zone_weight G Generation z
  unfolding zone_weight weight
  all_by_zone kw same = by_zone_is kw (node_tec G) same (λ v h. omega arith)

  pub some_by_zone : (test : Plant → Bool) (kw : List Kw) → ((v : ℕ) → v < n → kw_at kw v ≡ tec_of test G v) → (z : ℕ) → at_zone (by_zone n zone kw) z ≡ zone_tec_of G test z
  unfolding zone_tec_of
  some_by_zone test kw same = by_zone_is kw (tec_of test G) same (λ v h. tec_le {f = test} {g = λ plant. true} (λ plant e. refl) G v)

  -- ---- the kilowatts of the shared tariff, by TEC of each plant type and the load factors
  module _ (by_type : List Kw) (types : (t : ℕ) → t < 7 → (v : ℕ) → v < n → kw_at (by_node by_type (Of (plant_of (suc t)))) v ≡ capacity_at G v t)
      (factors : List ℕ) (factor : ℕ → ℕ) (told : (t : ℕ) → t < 7 → number_at factors t ≡ factor (suc t)) (thousandths : (t : ℕ) → t < 7 → factor (suc t) ≤ 1000) where
    type_low : (t : ℕ) → t < 7 → (v : ℕ) → capacity_at G v t ≤ node_tec G v
    type_low t h v = rw (all_weigh G v) (sum_item 7 t (capacity_at G v) h)

    type_row : (t k : ℕ) → t < 7 → k < 32 → kw_at (type_kw n zone by_type (plant_of (suc t))) k ≡ zone_tec G (suc k) (suc t)
    unfolding zone_tec
    type_row t k h l =
        let e : suc t - 1 ≡ t = omega arith in
        rw e (zone_row (by_node by_type (Of (plant_of (suc t)))) (λ v. capacity_at G v t) (types t h) (λ v m. type_low t h v) k l)

    load_row : (t k : ℕ) → t < 7 → k < 32
        → load_of (plant_of (suc t)) (kw_at (type_kw n zone by_type (plant_of (suc t))) k) (number_at factors t)
        ≡ cond (pays (plant_of (suc t))) (zone_tec G (suc k) (suc t) * factor (suc t)) 0
    unfolding load_of
    load_row t k h l = rw (type_row t k h l, told t h, kept_is 1000 (factor (suc t)) (thousandths t h)) refl

    pub shared_row : (k : ℕ) → k < 32 → kw_at (shared_kw n zone by_type factors) k ≡ loaded_kw G factor (suc k)
    unfolding shared_kw loaded loaded_kw
    shared_row k l =
        ap (λ (w : Kw). w.0) (rows_at (kilowatts 0) 32 (λ k. kilowatts (loaded n zone by_type factors 7 k / 1000)) k l)
        ∙ ap (λ (x : ℕ). x / 1000) (sum_same 7 _ _ (λ t h. load_row t k h l))

    -- a zone that no node is in has none
    no_load : (z : ℕ) → ((f : ℕ → ℕ) → grid f z ≡ 0) → loaded_kw G factor z ≡ 0
    unfolding loaded_kw zone_tec
    no_load z none =
        let e : sum 7 (λ t. cond (pays (plant_of (suc t))) (zone_tec G z (suc t) * factor (suc t)) 0) ≡ 0 = sum_none 7 _ (λ t h. nothing t) in
        rw e (omega arith)
      where
        nothing : (t : ℕ) → cond (pays (plant_of (suc t))) (zone_tec G z (suc t) * factor (suc t)) 0 ≡ 0
        nothing t = rw (none (λ v. capacity_at G v (suc t - 1))) (go (pays (plant_of (suc t))))
          where
            go : (b : Bool) → cond b (0 * factor (suc t)) 0 ≡ 0
            go true = omega arith
            go false = refl

    pub shared_kw_is : (z : ℕ) → at_zone (shared_kw n zone by_type factors) z ≡ loaded_kw G factor z
    shared_kw_is =
        by_number (shared_kw n zone by_type factors) (loaded_kw G factor) shared_row (no_load 0 in_none) (λ z l. no_load z (λ f. past_all f z l))
