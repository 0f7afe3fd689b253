-- 02, request 6: the kilowatts of the shared tariff are some of those that pay, all of them at full load and none at no load.
use mathlib.Core.Path.{◌≡◌, refl, sym, ◌∙◌, ap}
use mathlib.Core.Bool.{Bool, true, false, cond}
use mathlib.Core.List.{[]}
use Prim.Native.Nat.{ℕ, suc, ◌*◌, ◌-◌, ◌≤◌, ◌<◌}
use native.Mathlib.Nat.{mul-le-mul_left}
use native.Mathlib.Omega.{arith}
use lib.Dec.{eqb}
use lib.ListN.{length, get_or}
use Rattle.integers.specs.Numbers.{sum}
use Rattle.integers.proofs.Sum.{sum-le, sum_item, sum-mul, sum_same, sum_none}
use Rattle.integers.proofs.Group.{sum_swap}
use Rattle.meaning.specs.Grid.{Grid, plant_of, pays, over_types}
use Rattle.meaning.specs.declared.Side.TheVariants.{Generation}
use Rattle.meaning.specs.Charging.{in_zone}
use Rattle.meaning.specs.Figures.{zone_of, weight, zone_weight, paying, zone_paying, zone_tec, loaded_kw}
use Rattle.meaning.specs.Shares.{LoadFactorsWeigh}
use Rattle.meaning.proofs.Plants.{capacity_at}

-- over nodes and then types, or over types and then nodes
types_apart : (m n : ℕ) (in_zone_lem taken : ℕ → Bool) (kw : ℕ → ℕ → ℕ)
    → sum n (λ v. cond (in_zone_lem v) (sum m (λ t. cond (taken t) (kw v t) 0)) 0) ≡ sum m (λ t. cond (taken t) (sum n (λ v. cond (in_zone_lem v) (kw v t) 0)) 0)
types_apart m n in_zone_lem taken kw =
    sum_same n _ _ (λ v l. inside (in_zone_lem v) v) ∙ sum_swap n m _ ∙ sum_same m _ _ (λ t l. outside (taken t) t)
  where
    inside : (b : Bool) (v : ℕ) → cond b (sum m (λ t. cond (taken t) (kw v t) 0)) 0 ≡ sum m (λ t. cond (taken t) (cond b (kw v t) 0) 0)
    inside true v = refl
    inside false v = sym (sum_none m _ (λ t l. none (taken t)))
      where
        none : (b : Bool) → cond {A = ℕ} b 0 0 ≡ 0
        none true = refl
        none false = refl

    outside : (b : Bool) (t : ℕ) → sum n (λ v. cond b (cond (in_zone_lem v) (kw v t) 0) 0) ≡ cond b (sum n (λ v. cond (in_zone_lem v) (kw v t) 0)) 0
    outside true t = refl
    outside false t = sum_none n _ (λ v l. refl)

module _ (G : Grid) (zone : ℕ) where
  type_tec : (t : ℕ) → in_zone (length G.nodes) (zone_of G Generation) (λ v. capacity_at G v t) zone ≡ zone_tec G zone (suc t)
  unfolding zone_tec
  type_tec t = let e : suc t - 1 ≡ t = omega arith in rw e refl

  -- what pays in a zone, type by type
  pub zone_types_lem : zone_paying G Generation zone ≡ sum 7 (λ t. cond (pays (plant_of (suc t))) (zone_tec G zone (suc t)) 0)
  unfolding zone_paying paying over_types
  zone_types_lem =
      types_apart 7 (length G.nodes) (λ v. eqb (zone_of G Generation v) zone) (λ t. pays (plant_of (suc t))) (capacity_at G)
      ∙ sum_same 7 _ _ (λ t l. ap (λ (kw : ℕ). cond (pays (plant_of (suc t))) kw 0) (type_tec t))

  module _ (factor : (plant_type : ℕ) → ℕ) where
    abbrev thousandths : ℕ
    thousandths = sum 7 (λ t. cond (pays (plant_of (suc t))) (zone_tec G zone (suc t) * factor (suc t)) 0)

    pub thousandths_most : ((t : ℕ) → 1 ≤ t → t ≤ 7 → factor t ≤ 1000) → thousandths ≤ zone_paying G Generation zone * 1000
    thousandths_most h = rw (zone_types_lem, ← sum-mul 7 (λ t. cond (pays (plant_of (suc t))) (zone_tec G zone (suc t)) 0) 1000)
        (sum-le 7 _ _ (λ t l. go (pays (plant_of (suc t))) (zone_tec G zone (suc t)) (factor (suc t)) (h (suc t) (omega arith) l)))
      where
        go : (b : Bool) (kw f : ℕ) → f ≤ 1000 → cond b (kw * f) 0 ≤ cond b kw 0 * 1000
        go true kw f h = mul-le-mul_left kw h
        go false kw f h = omega arith

    pub loaded_some : ((t : ℕ) → 1 ≤ t → t ≤ 7 → factor t ≤ 1000) → loaded_kw G factor zone ≤ zone_paying G Generation zone
    unfolding loaded_kw
    loaded_some h = omega (arith, thousandths_most h)

    pub loaded_all : ((t : ℕ) → factor t ≡ 1000) → loaded_kw G factor zone ≡ zone_paying G Generation zone
    unfolding loaded_kw
    loaded_all h =
        let e = sum_same 7 _ (λ t. cond (pays (plant_of (suc t))) (zone_tec G zone (suc t)) 0 * 1000) (λ t l. go (pays (plant_of (suc t))) (zone_tec G zone (suc t)) (factor (suc t)) (h (suc t)))
        ∙ sum-mul 7 (λ t. cond (pays (plant_of (suc t))) (zone_tec G zone (suc t)) 0) 1000 in
        rw e (omega (arith, zone_types_lem))
      where
        go : (b : Bool) (kw f : ℕ) → f ≡ 1000 → cond b (kw * f) 0 ≡ cond b kw 0 * 1000
        go true kw f h = rw h refl
        go false kw f h = omega arith

    pub loaded_none : ((t : ℕ) → factor t ≡ 0) → loaded_kw G factor zone ≡ 0
    unfolding loaded_kw
    loaded_none h = rw (sum_none 7 _ (λ t l. go (pays (plant_of (suc t))) (zone_tec G zone (suc t)) (factor (suc t)) (h (suc t)))) refl
      where
        go : (b : Bool) (kw f : ℕ) → f ≡ 0 → cond b (kw * f) 0 ≡ 0
        go true kw f h = rw h (omega arith)
        go false kw f h = refl

module _ (G : Grid) where
  -- of one type a zone has no more than of all
  pub type_within : (zone t : ℕ) → t < 7 → zone_tec G zone (suc t) ≤ zone_weight G Generation zone
  unfolding zone_tec zone_weight weight over_types
  type_within zone t h =
      let e : suc t - 1 ≡ t = omega arith in
      rw e (sum-le (length G.nodes) _ _ (λ v l. taken (eqb (zone_of G Generation v) zone) (sum_item 7 t (λ u. get_or (get_or G.capacity v []) u 0) h)))
    where
      taken : (b : Bool) {x y : ℕ} → x ≤ y → cond b x 0 ≤ cond b y 0
      taken true h = h
      taken false h = omega arith

  -- so one without TEC pays no shared tariff, whatever the factors
  pub unloaded : (factor : ℕ → ℕ) (zone : ℕ) → zone_weight G Generation zone ≡ 0 → loaded_kw G factor zone ≡ 0
  unfolding loaded_kw
  unloaded factor zone e = rw (sum_none 7 _ (λ t h. nothing (pays (plant_of (suc t))) (factor (suc t)) (type_within zone t h))) refl
    where
      nothing : (b : Bool) {x : ℕ} (f : ℕ) → x ≤ zone_weight G Generation zone → cond b (x * f) 0 ≡ 0
      nothing true {x = x} f h = let q : x ≡ 0 = omega (arith, e) in rw q (omega arith)
      nothing false f h = refl

pub load_factors_weigh : LoadFactorsWeigh
load_factors_weigh G factor zone = record { some = loaded_some G zone factor; all = loaded_all G zone factor; none = loaded_none G zone factor }
