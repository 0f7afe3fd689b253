-- Two cases whose sides correspond, each side to itself (what is hidden of stations) or to the other (the mirror image): what is added up over nodes and zones corresponds too, and the money where prices do.
use mathlib.Core.Path.{◌≡◌, refl, sym, ◌∙◌, ap, ap₂, fun_ext}
use mathlib.Core.Logic.{◌≢◌}
use mathlib.Core.Bool.{Bool, true, false, cond}
use mathlib.Core.List.{List}
use Prim.Native.Nat.{ℕ, suc, ◌≤◌, ◌<◌}
use native.Mathlib.Omega.{arith}
use lib.Dec.{eqb}
use lib.IntN.{ℤ, pos, ◌+ℤ◌, ◌-ℤ◌, ◌*ℤ◌}
use lib.ListN.{length}
use Rattle.integers.specs.Numbers.{sum, nearest}
use Rattle.integers.proofs.Core.{Z}
use Rattle.integers.proofs.Div.{nearest_exact}
use Rattle.integers.proofs.Sum.{sum_same, Σ-same}
use Rattle.integers.proofs.Group.{sum_only, Σ-only}
use Rattle.meaning.specs.declared.Edition.{Edition}
use Rattle.meaning.specs.declared.Edition.TheVariants.{First, Second}
use Rattle.meaning.specs.declared.Background.{Background}
use Rattle.meaning.specs.declared.Background.TheVariants.{YearRound, Peak}
use Rattle.meaning.specs.declared.Side.{Side}
use Rattle.meaning.specs.Editions.{Of, by_edition, over_backgrounds}
use Rattle.meaning.specs.Study.{Kw, Metres, Runs}
use Rattle.meaning.specs.Grid.{Grid}
use Rattle.meaning.specs.Figures.{distance, zones, zone_of, weight, paying, paying_in, zone_weight, zone_paying_in, total_paying, total_paying_in, over_zones, target, zonal_metres, zone_tariff, local_income, priced, rest, residual, remainder, zone_total, basis}
use Rattle.meaning.specs.Charging as charging
use Rattle.meaning.specs.Distances.{weight_in}
use Rattle.meaning.specs.Mirror.{average}

-- ---- an edition's backgrounds
pub over_backgrounds_lem : {e e' : Edition} (f f' : Background → ℤ) → e ≡ e' → ((b : Background) → Of b e → f b ≡ f' b) → over_backgrounds e f ≡ over_backgrounds e' f'
unfolding over_backgrounds
over_backgrounds_lem {e = e} f f' same h = go e h ∙ ap (λ (e : Edition). over_backgrounds e f') same
  where
    go : (e : Edition) → ((b : Background) → Of b e → f b ≡ f' b) → over_backgrounds e f ≡ over_backgrounds e f'
    go First h = h YearRound tt
    go Second h = ap₂ ◌+ℤ◌ (h YearRound tt) (h Peak tt)

-- what is there of peak alone
pub of_peak : {A : Type 0} {e e' : Edition} (none : A) {x x' : A} → e ≡ e' → (Of Peak e → x ≡ x') → by_edition none x e ≡ by_edition none x' e'
of_peak {e = e} none {x = x} {x' = x'} same h = go e h ∙ ap (by_edition none x') same
  where
    go : (e : Edition) → (Of Peak e → x ≡ x') → by_edition none x e ≡ by_edition none x' e
    go First h = refl
    go Second h = h tt

-- ---- step 7: an average by its terms, and a zone's metres as one
pub average_same : (n : ℕ) (m m' : ℕ → Metres) (w w' : ℕ → Kw) → ((v : ℕ) → v < n → m v ≡ m' v) → ((v : ℕ) → v < n → w v ≡ w' v)
    → average n m w ≡ average n m' w'
average_same n m m' w w' e f =
    ap₂ nearest (Σ-same n _ _ (λ v h. ap₂ (λ (x : ℤ) (k : ℕ). x *ℤ pos k) (e v h) (f v h))) (sum_same n w w' f)

pub zonal_average : (G : Grid) (runs : Runs) (b : Background) (side : Side) (zone : ℕ)
    → zonal_metres G runs b side zone ≡ average (length G.nodes) (distance runs b side) (weight_in G side zone)
unfolding zonal_metres zone_weight
zonal_average G runs b side zone =
    ap (λ (z : ℤ). nearest z (sum (length G.nodes) (weight_in G side zone)))
    (Σ-same (length G.nodes) _ _ (λ v h. weighed (eqb (zone_of G side v) zone) (distance runs b side v) (weight G side v)))
  where
    weighed : (inside : Bool) (x : ℤ) (w : ℕ) → cond inside (x *ℤ pos w) (pos 0) ≡ x *ℤ pos (cond inside w 0)
    weighed true x w = refl
    weighed false x w = simp Z (omega arith)

-- a zone whose kilowatts are all at node v has that node's distance
pub zone_of_one : (G : Grid) (runs : Runs) (b : Background) (side : Side) (zone v : ℕ) → v < length G.nodes → 1 ≤ weight_in G side zone v
    → ((u : ℕ) → u < length G.nodes → u ≢ v → weight_in G side zone u ≡ 0) → zonal_metres G runs b side zone ≡ distance runs b side v
zone_of_one G runs b side zone v h some none =
    zonal_average G runs b side zone
    ∙ ap₂ nearest (Σ-only (length G.nodes) v (λ u. distance runs b side u *ℤ pos (weight_in G side zone u)) h term) (sum_only (length G.nodes) v (weight_in G side zone) h none)
    ∙ nearest_exact (distance runs b side v) (weight_in G side zone v) some
  where
    term : (u : ℕ) → u < length G.nodes → u ≢ v → distance runs b side u *ℤ pos (weight_in G side zone u) ≡ pos 0
    term u l d = rw (none u l d) (simp Z (omega arith))

-- ---- two cases
-- in a background, a side of G' has the zones, the kilowatts and the distances of the side `to side` of G
pub record Corresponds (to : Side → Side) (b : Background) (G G' : Grid) (runs runs' : Runs) : Type 0 where
  pub node_count : length G'.nodes ≡ length G.nodes
  pub zone_counts : (side : Side) → zones G' side ≡ zones G (to side)
  pub zones_of : (side : Side) (v : ℕ) → v < length G.nodes → zone_of G' side v ≡ zone_of G (to side) v
  pub weights : (side : Side) (v : ℕ) → v < length G.nodes → weight G' side v ≡ weight G (to side) v
  pub payers : (side : Side) (v : ℕ) → v < length G.nodes → paying G' side v ≡ paying G (to side) v
  pub payers_in : (side : Side) (v : ℕ) → v < length G.nodes → paying_in G' b side v ≡ paying_in G b (to side) v
  pub distances : (side : Side) (v : ℕ) → v < length G.nodes → distance runs' b side v ≡ distance runs b (to side) v

-- the kilowatts of a node in a zone
in_zone_lem : (zone : ℕ) {z z' w w' : ℕ} → z ≡ z' → w ≡ w' → cond (eqb z zone) w 0 ≡ cond (eqb z' zone) w' 0
in_zone_lem zone e f = ap₂ (λ (z w : ℕ). cond (eqb z zone) w 0) e f

module _ (to : Side → Side) (b : Background) (G G' : Grid) (runs runs' : Runs) (x : Corresponds to b G G' runs runs') where
  abbrev n : ℕ
  n = length G.nodes

  pub weight_same : (side : Side) (zone : ℕ) → zone_weight G' side zone ≡ zone_weight G (to side) zone
  unfolding zone_weight
  weight_same side zone = rw x.node_count (sum_same n _ _ (λ v h. in_zone_lem zone (x.zones_of side v h) (x.weights side v h)))

  pub paying_same : (side : Side) (zone : ℕ) → zone_paying_in G' b side zone ≡ zone_paying_in G b (to side) zone
  unfolding zone_paying_in
  paying_same side zone = rw x.node_count (sum_same n _ _ (λ v h. in_zone_lem zone (x.zones_of side v h) (x.payers_in side v h)))

  pub total_same : (side : Side) → total_paying_in G' b side ≡ total_paying_in G b (to side)
  unfolding total_paying_in
  total_same side = rw x.node_count (sum_same n _ _ (x.payers_in side))

  pub payers_same : (side : Side) → total_paying G' side ≡ total_paying G (to side)
  unfolding total_paying
  payers_same side = rw x.node_count (sum_same n _ _ (x.payers side))

  pub zonal_same : (side : Side) (zone : ℕ) → zonal_metres G' runs' b side zone ≡ zonal_metres G runs b (to side) zone
  zonal_same side zone =
      zonal_average G' runs' b side zone
      ∙ ap (λ (m : ℕ). average m (distance runs' b side) (weight_in G' side zone)) x.node_count
      ∙ average_same n _ _ _ _ (x.distances side) (λ v h. in_zone_lem zone (x.zones_of side v h) (x.weights side v h))
      ∙ sym (zonal_average G runs b (to side) zone)

  -- and so step 7 hands on the same
  pub zones_same : (side : Side) → (basis G' runs').side b side ≡ (basis G runs).side b (to side)
  unfolding basis
  zones_same side =
      rw (x.zone_counts side, fun_ext (weight_same side), fun_ext (paying_same side), fun_ext (zonal_same side), total_same side) refl

  -- a figure of each zone, over the kilowatts that pay
  pub over_same : (side : Side) (f f' : ℕ → ℤ) → ((zone : ℕ) → f' zone ≡ f zone) → over_zones G' b side f' ≡ over_zones G b (to side) f
  over_same side f f' e =
      rw (x.zone_counts side) (Σ-same (zones G (to side)) _ _ (λ k h. ap₂ (λ (m : ℤ) (w : ℕ). m *ℤ pos w) (e (suc k)) (paying_same side (suc k))))

-- step 10, where the sides correspond in each background of one edition, and tariffs, shared income, targets and local income do
module _ (to : Side → Side) (G G' : Grid) (runs runs' : Runs) (share : List ℕ) (edition : G'.settings.edition ≡ G.settings.edition)
    (x : (b : Background) → Of b G'.settings.edition → Corresponds to b G G' runs runs')
    (prices : (b : Background) → Of b G'.settings.edition → (side : Side) (zone : ℕ) → zone_tariff G' runs' share b side zone ≡ zone_tariff G runs share b (to side) zone)
    (shared : (side : Side) → charging.shared_income (priced G' runs' share side) ≡ charging.shared_income (priced G runs share (to side)))
    (targets : (side : Side) → target G' side ≡ target G (to side))
    (locals : (side : Side) → local_income G' runs' side ≡ local_income G runs (to side)) where
  pub rest_same : (side : Side) → rest G' runs' share side ≡ rest G runs share (to side)
  unfolding charging.rest charging.priced basis
  rest_same side =
      let brought = over_backgrounds_lem _ _ edition (λ b h. over_same to b G G' runs runs' (x b h) side _ _ (prices b h side)) in
      ap₂ ◌-ℤ◌ (ap₂ ◌-ℤ◌ (targets side) (ap₂ ◌+ℤ◌ brought (shared side))) (locals side)

  paid_same : (side : Side) → (priced G' runs' share side).payers ≡ (priced G runs share (to side)).payers
  unfolding charging.priced basis
  paid_same side = payers_same to YearRound G G' runs runs' (x YearRound tt) side

  zoned_same : (side : Side) → (priced G' runs' share side).zones YearRound ≡ (priced G runs share (to side)).zones YearRound
  unfolding charging.priced
  zoned_same side = zones_same to YearRound G G' runs runs' (x YearRound tt) side

  -- whichever kilowatts the rest is over
  pub residual_same : (side : Side) → residual G' runs' share side ≡ residual G runs share (to side)
  unfolding charging.residual
  residual_same side = simp (rest_same side, paid_same side, zoned_same side)

  pub remainder_same : (side : Side) → remainder G' runs' share side ≡ remainder G runs share (to side)
  unfolding charging.remainder
  remainder_same side = simp (rest_same side, paid_same side, zoned_same side)

  tariffs_same : (side : Side) (zone : ℕ)
      → over_backgrounds (priced G' runs' share side).edition (λ b. zone_tariff G' runs' share b side zone) ≡ over_backgrounds (priced G runs share (to side)).edition (λ b. zone_tariff G runs share b (to side) zone)
  unfolding charging.priced basis
  tariffs_same side zone = over_backgrounds_lem _ _ edition (λ b h. prices b h side zone)

  pub zone_total_same : (side : Side) (zone : ℕ) → zone_total G' runs' share side zone ≡ zone_total G runs share (to side) zone
  unfolding charging.zone_total
  zone_total_same side zone = simp (tariffs_same side zone, prices YearRound tt side zone, residual_same side)
