-- 02, request 2: the mirror of generation and demand. Of "nearest" only that it is a nearest number, and that it mirrors, is used.
use mathlib.Core.Path.{◌≡◌, refl, sym, ◌∙◌, ap, ap₂}
use mathlib.Core.Logic.{◌⊎◌, inl, inr}
use mathlib.Core.List.{List}
use Prim.Native.Nat.{ℕ, ◌+◌, ◌*◌, ◌-◌, ◌<◌}
use native.Mathlib.Omega.{arith}
use lib.IntN.{ℤ, pos, neg_ℤ, ◌+ℤ◌, ◌-ℤ◌, ◌*ℤ◌}
use lib.ListN.{length}
use lib.Signed.{◌<ℤ◌}
use Rattle.integers.specs.Numbers.{sum, Σ, floor_div, nearest, Near}
use Rattle.integers.proofs.Core.{Z}
use Rattle.integers.proofs.Laws.{neg-neg, neg-mul}
use Rattle.integers.proofs.Sum.{Σ-same, Σ-neg}
use Rattle.integers.proofs.Div.{floor_exact, nearest_error, nearest_mirror, nearest_moved}
use Rattle.meaning.specs.declared.Edition.{Edition}
use Rattle.meaning.specs.declared.Background.{Background}
use Rattle.meaning.specs.declared.Background.TheVariants.{YearRound, Peak}
use Rattle.meaning.specs.declared.System.TheVariants.{Wider, Local}
use Rattle.meaning.specs.declared.Side.{Side}
use Rattle.meaning.specs.declared.Side.TheVariants.{Generation, Demand}
use Rattle.meaning.specs.Study.{Metres, Runs}
use Rattle.meaning.specs.Grid.{Grid}
use Rattle.meaning.specs.Charging.{metres, tariff}
use Rattle.meaning.specs.Figures.{wider_metres, local_metres, distance, total_paying_in, over_zones, target, zonal_metres, C, after_c, zone_tariff, local_income, priced, basis}
use Rattle.meaning.specs.Charging as charging
use Rattle.meaning.specs.Distances.{weight_in}
use Rattle.meaning.specs.Mirror.{NearestMirrors, half_up, NegativeHalf, OnlyNegativeHalvesMove, nodal, zonal, centre, zone_tariffs, shared_tariffs, local_tariffs, FiguresMove, average, AveragesMirror, WeighAlike, Whole, ZonesMirror, other, Exchanged, MirrorImage, SidesMirror, MoneyMirrors}
use Rattle.meaning.specs.Sharing.{in_force}
use Rattle.meaning.proofs.Shared.{unshared_on, own_whole, own_peak, no_shared_income}
use Rattle.meaning.proofs.Sides.{average_same, zonal_average, Corresponds, zonal_same, total_same, over_same, residual_same, remainder_same, zone_total_same}

-- ---- one division
pub nearest_mirrors : NearestMirrors
nearest_mirrors = nearest_mirror

pub only_negative_halves_move : OnlyNegativeHalvesMove
only_negative_halves_move z d p = go (nearest_moved z d p)
  where
    k : ℤ
    k = nearest z d

    go : (k ≡ half_up z d) ⊎ ((z <ℤ pos 0) × (pos 2 *ℤ z ≡ (pos 2 *ℤ k +ℤ pos 1) *ℤ pos d)) → (k ≡ half_up z d) ⊎ NegativeHalf z d
    go (inl e) = inl e
    go (inr h) = inr (record { below = h.0; half = h.1; was = ap (λ (y : ℤ). floor_div y (2 * d)) (whole k d h.1) ∙ floor_exact (k +ℤ pos 1) (2 * d) (omega arith) })
      where
        whole : (k : ℤ) (d : ℕ) → pos 2 *ℤ z ≡ (pos 2 *ℤ k +ℤ pos 1) *ℤ pos d → pos 2 *ℤ z +ℤ pos d ≡ (k +ℤ pos 1) *ℤ pos (2 * d)
        whole k d e = simp Z (omega (arith, simp Z at e))

-- ---- steps 6 and 9
pub metres_mirror : (z : ℤ) → metres (neg_ℤ z) ≡ neg_ℤ (metres z)
unfolding metres
metres_mirror z = nearest_mirror z 1000000000

-- demand 3 rests on this alone
pub metres_near : (z : ℤ) → Near z 1000000000 (metres z)
unfolding metres
metres_near z = nearest_error z 1000000000 (omega arith)

pub tariff_mirror : (m : Metres) (constant factor : ℕ) → tariff (neg_ℤ m) constant factor ≡ neg_ℤ (tariff m constant factor)
unfolding tariff
tariff_mirror m constant factor =
    ap (λ (z : ℤ). nearest (z *ℤ pos factor) 100000) (neg-mul m (pos constant))
    ∙ ap (λ (z : ℤ). nearest z 100000) (neg-mul (m *ℤ pos constant) (pos factor))
    ∙ nearest_mirror (m *ℤ pos constant *ℤ pos factor) 100000

-- ---- step 7
pub averages_mirror : AveragesMirror
averages_mirror n m w =
    ap (λ (z : ℤ). nearest z (sum n w)) (Σ-same n _ _ (λ v h. neg-mul (m v) (pos (w v))) ∙ Σ-neg n (λ v. m v *ℤ pos (w v)))
    ∙ nearest_mirror (Σ n (λ v. m v *ℤ pos (w v))) (sum n w)

demand_average : (G : Grid) (runs : Runs) (b : Background) (zone : ℕ)
    → zonal_metres G runs b Demand zone ≡ neg_ℤ (average (length G.nodes) (distance runs b Generation) (weight_in G Demand zone))
unfolding distance
demand_average G runs b zone =
    zonal_average G runs b Demand zone ∙ averages_mirror (length G.nodes) (wider_metres runs b) (weight_in G Demand zone)

-- ---- metres after C, where they are whole
after_whole : (G : Grid) (runs : Runs) (share : List ℕ) (b : Background) → Whole G share b → (side : Side) (zone : ℕ)
    → after_c G runs share b side zone ≡ charging.with_c side (C G runs b) (zonal_metres G runs b side zone)
unfolding charging.after_c charging.priced basis
after_whole G runs share YearRound whole side zone =
    ap (charging.with_c side (C G runs YearRound)) (own_whole (priced G runs share side) (unshared_on G share whole runs side) YearRound zone)
after_whole G runs share Peak whole side zone = ap (charging.with_c side (C G runs Peak)) (own_peak (priced G runs share side) zone)

-- ---- a generation zone and a demand zone
module _ (G : Grid) (runs : Runs) (g d : ℕ) (h : WeighAlike G g d) (b : Background) where
  zone_mirror : zonal_metres G runs b Demand d ≡ neg_ℤ (zonal_metres G runs b Generation g)
  zone_mirror =
      demand_average G runs b d
      ∙ ap neg_ℤ (average_same (length G.nodes) (distance runs b Generation) (distance runs b Generation) _ _ (λ v k. refl) (λ v k. sym (h v k)))
      ∙ ap neg_ℤ (sym (zonal_average G runs b Generation g))

  module _ (share : List ℕ) (whole : Whole G share b) where
    centre_mirror : after_c G runs share b Demand d ≡ neg_ℤ (after_c G runs share b Generation g)
    centre_mirror =
        after_whole G runs share b whole Demand d ∙ ap (λ (m : Metres). charging.with_c Demand (C G runs b) m) zone_mirror ∙ moved (zonal_metres G runs b Generation g) (C G runs b)
        ∙ ap neg_ℤ (sym (after_whole G runs share b whole Generation g))
      where
        moved : (m c : ℤ) → neg_ℤ m -ℤ c ≡ neg_ℤ (m +ℤ c)
        moved m c = simp Z (omega arith)

    price_mirror : zone_tariff G runs share b Demand d ≡ neg_ℤ (zone_tariff G runs share b Generation g)
    unfolding charging.zone_tariff charging.priced basis
    price_mirror =
        ap (λ (m : Metres). tariff m G.settings.constant G.settings.wider_factor) centre_mirror
        ∙ tariff_mirror (after_c G runs share b Generation g) G.settings.constant G.settings.wider_factor

pub zones_mirror : ZonesMirror
zones_mirror G runs share g d h = record {
  metres = zone_mirror G runs g d h;
  with_c = λ b whole. centre_mirror G runs g d h b share whole;
  tariffs = λ b whole. price_mirror G runs g d h b share whole;
}

-- ---- a case and its mirror image
-- step 8 over plain numbers: p and p' are 1000 together
turned_C : (p p' k l : ℕ) (a b : ℤ) → p' + p ≡ 1000
    → nearest (pos (1000 - p') *ℤ b -ℤ pos p' *ℤ a) (p' * l + (1000 - p') * k) ≡ neg_ℤ (nearest (pos (1000 - p) *ℤ a -ℤ pos p *ℤ b) (p * k + (1000 - p) * l))
turned_C p p' k l a b e =
    let mine : 1000 - p' ≡ p = omega arith in
    let yours : 1000 - p ≡ p' = omega arith in
    rw (mine, yours) (ap₂ nearest (turned p p' a b) (joined p p' k l) ∙ nearest_mirror (pos p' *ℤ a -ℤ pos p *ℤ b) (p * k + p' * l))
  where
    turned : (p q : ℕ) (a b : ℤ) → pos p *ℤ b -ℤ pos q *ℤ a ≡ neg_ℤ (pos q *ℤ a -ℤ pos p *ℤ b)
    turned p q a b = simp Z (omega arith)

    joined : (p q k l : ℕ) → q * l + p * k ≡ p * k + q * l
    joined p q k l = omega arith

whole_turned : (G G' : Grid) → G'.settings.edition ≡ G.settings.edition → (share : List ℕ) (b : Background) → Whole G share b → Whole G' share b
whole_turned G G' e share YearRound whole = ap (λ (e : Edition). in_force e share) e ∙ whole
whole_turned G G' e share Peak whole = tt

module _ (G G' : Grid) (runs runs' : Runs) (x : Exchanged G G' runs runs') where
  same_tariff : (m m' : Metres) (c c' f f' : ℕ) → m ≡ m' → c ≡ c' → f ≡ f' → tariff m c f ≡ tariff m' c' f'
  same_tariff m m' c c' f f' a b d = rw (a, b, d) refl

  module _ (b : Background) where
    distance_turned : (side : Side) (v : ℕ) → v < length G.nodes → distance runs' b side v ≡ distance runs b (other side) v
    unfolding distance wider_metres
    distance_turned Generation v h = ap metres (x.potentials (Wider b) tt v h) ∙ metres_mirror _
    distance_turned Demand v h = ap (λ (z : ℤ). neg_ℤ (metres z)) (x.potentials (Wider b) tt v h) ∙ ap neg_ℤ (metres_mirror _) ∙ neg-neg _

    corresponds : Corresponds other b G G' runs runs'
    corresponds = record {
      node_count = x.node_count;
      zone_counts = x.zone_counts;
      zones_of = x.zones_of;
      weights = x.weights;
      payers = x.payers;
      payers_in = x.payers_in b;
      distances = distance_turned;
    }

    zonal_turned : (side : Side) (zone : ℕ) → zonal_metres G' runs' b side zone ≡ zonal_metres G runs b (other side) zone
    zonal_turned = zonal_same other b G G' runs runs' corresponds

    over_turned : (side : Side) → over_zones G' b side (zonal_metres G' runs' b side) ≡ over_zones G b (other side) (zonal_metres G runs b (other side))
    over_turned side = over_same other b G G' runs runs' corresponds side _ _ (zonal_turned side)

    total_turned : (side : Side) → total_paying_in G' b side ≡ total_paying_in G b (other side)
    total_turned = total_same other b G G' runs runs' corresponds

    C-turned : C G' runs' b ≡ neg_ℤ (C G runs b)
    unfolding charging.C basis
    C-turned =
        rw (over_turned Demand, over_turned Generation, total_turned Demand, total_turned Generation)
        (turned_C G.settings.p G'.settings.p (total_paying_in G b Generation) (total_paying_in G b Demand) (over_zones G b Demand (zonal_metres G runs b Demand))
        (over_zones G b Generation (zonal_metres G runs b Generation)) x.shares)

    with_turned : (side : Side) (zone : ℕ)
        → charging.with_c side (C G' runs' b) (zonal_metres G' runs' b side zone) ≡ charging.with_c (other side) (C G runs b) (zonal_metres G runs b (other side) zone)
    with_turned Generation zone = rw (zonal_turned Generation zone, C-turned) refl
    with_turned Demand zone = rw (zonal_turned Demand zone, C-turned, neg-neg (C G runs b)) refl

    module _ (share : List ℕ) (whole : Whole G share b) where
      after_turned : (side : Side) (zone : ℕ) → after_c G' runs' share b side zone ≡ after_c G runs share b (other side) zone
      after_turned side zone =
          after_whole G' runs' share b (whole_turned G G' x.editions share b whole) side zone ∙ with_turned side zone ∙ sym (after_whole G runs share b whole (other side) zone)

      tariff_turned : (side : Side) (zone : ℕ) → zone_tariff G' runs' share b side zone ≡ zone_tariff G runs share b (other side) zone
      unfolding charging.zone_tariff charging.priced basis
      tariff_turned side zone = same_tariff _ _ _ _ _ _ (after_turned side zone) x.constants x.wider_factors

  local_turned : (v : ℕ) → v < length G.nodes → local_metres runs' v ≡ neg_ℤ (local_metres runs v)
  unfolding local_metres
  local_turned v h = ap metres (x.potentials Local tt v h) ∙ metres_mirror _

  image : (share : List ℕ) → MirrorImage G G' runs runs' share
  unfolding charging.local_tariff basis
  image share = record {
    centre = C-turned;
    metres = zonal_turned;
    with_c = λ b. after_turned b share;
    tariffs = λ b. tariff_turned b share;
    local_distances = local_turned;
    local_tariffs = λ v h. same_tariff _ _ _ _ _ _ (local_turned v h) x.constants x.local_factors ∙ tariff_mirror _ _ _;
  }

pub sides_mirror : SidesMirror
sides_mirror G G' runs runs' share x = image G G' runs runs' x share

-- ---- and its money
-- a target by p is the other side's by 1000 - p
target_turned : (G G' : Grid) → G'.settings.p + G.settings.p ≡ 1000 → G'.settings.revenue ≡ G.settings.revenue
    → (side : Side) → target G' side ≡ target G (other side)
target_turned G G' e r Generation = let q : 1000 - G'.settings.p ≡ G.settings.p = omega arith in rw (r, q) refl
target_turned G G' e r Demand = let q : 1000 - G.settings.p ≡ G'.settings.p = omega arith in rw (r, q) refl

local_none : (G G' : Grid) (runs runs' : Runs) → local_income G runs Generation ≡ pos 0 → local_income G' runs' Generation ≡ pos 0
    → (side : Side) → local_income G' runs' side ≡ local_income G runs (other side)
unfolding charging.local_income basis
local_none G G' runs runs' e e' Generation = e'
local_none G G' runs runs' e e' Demand = sym e

pub money_mirrors : MoneyMirrors
money_mirrors G G' runs runs' share m =
    let x = m.exchanged in
    let e = x.editions in
    let c = corresponds G G' runs runs' x in
    let targets = target_turned G G' x.shares m.revenues in
    let locals = local_none G G' runs runs' m.no_local m.no_local' in
    record {
      residuals = residual_same other G G' runs runs' share e (λ b h. c b) (λ b h. tariff_turned G G' runs runs' x b share (all_whole b)) none_shared targets locals;
      totals = zone_total_same other G G' runs runs' share e (λ b h. c b) (λ b h. tariff_turned G G' runs runs' x b share (all_whole b)) none_shared targets locals;
      remainders = remainder_same other G G' runs runs' share e (λ b h. c b) (λ b h. tariff_turned G G' runs runs' x b share (all_whole b)) none_shared targets locals;
    }
  where
    all_whole : (b : Background) → Whole G share b
    all_whole YearRound = m.whole
    all_whole Peak = tt

    none_shared : (side : Side) → charging.shared_income (priced G' runs' share side) ≡ charging.shared_income (priced G runs share (other side))
    none_shared side =
        no_shared_income (priced G' runs' share side) (unshared_on G' share (whole_turned G G' m.exchanged.editions share YearRound m.whole) runs' side)
        ∙ sym (no_shared_income (priced G runs share (other side)) (unshared_on G share m.whole runs (other side)))

-- ---- what moved, figure by figure: each is the nearest of its division
pub figures_move : FiguresMove
unfolding metres zonal_metres charging.C charging.zone_tariff charging.shared_tariff charging.local_tariff tariff charging.priced basis
figures_move G runs share z d f (nodal s _ v) p = only_negative_halves_move _ _ p
figures_move G runs share z d f (zonal b side zone) p = only_negative_halves_move _ _ p
figures_move G runs share z d f (centre b) p = only_negative_halves_move _ _ p
figures_move G runs share z d f (zone_tariffs b side zone) p = only_negative_halves_move _ _ p
figures_move G runs share z d f (shared_tariffs side zone) p = only_negative_halves_move _ _ p
figures_move G runs share z d f (local_tariffs v) p = only_negative_halves_move _ _ p
