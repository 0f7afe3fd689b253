-- 01, step 10: incomes, rest, residual, total and remainder.
use mathlib.Core.List.{List}
use Prim.Native.Nat.{ℕ, suc, ◌+◌, ◌*◌, ◌-◌, ◌≤◌}
use native.Mathlib.Nat.{le_refl, le_trans, mul-le-mul, mul-le-mul_left}
use native.Mathlib.Omega.{arith}
use lib.IntN.{ℤ, pos, neg_ℤ, nat_abs, ◌+ℤ◌, ◌-ℤ◌, ◌*ℤ◌}
use lib.Signed.{◌≤ℤ◌, ◌<ℤ◌}
use lib.ListN.{length}
use Rattle.integers.specs.Numbers.{sum, Σ}
use Rattle.integers.proofs.Core.{Z}
use Rattle.integers.proofs.Laws.{abs-add, abs-mul-le}
use Rattle.integers.proofs.Div.{floor_is}
use Rattle.meaning.specs.Study.{Runs}
use Rattle.meaning.specs.declared.Edition.{Edition}
use Rattle.meaning.specs.declared.Edition.TheVariants.{First, Second}
use Rattle.meaning.specs.declared.Background.{Background}
use Rattle.meaning.specs.declared.Background.TheVariants.{YearRound, Peak}
use Rattle.meaning.specs.Grid.{Grid, paying_tec}
use Rattle.meaning.specs.Editions.{Of, over_backgrounds}
use Rattle.meaning.specs.declared.Side.{Side}
use Rattle.meaning.specs.declared.Side.TheVariants.{Generation, Demand}
use Rattle.meaning.specs.declared.Form.{Form}
use Rattle.meaning.specs.Sharing.{shared_kw}
use Rattle.meaning.specs.Charging.{residual_of, remainder_of, shared_income, wider_income}
use Rattle.meaning.specs.Figures.{zones, paying, zone_paying, zone_paying_in, total_paying, over_zones, target, form_of, zone_tariff, shared_tariff, local_tariff, local_income, priced, rest, residual, remainder, zone_total, basis}
use Rattle.meaning.specs.Charging as charging
use Rattle.sizes.specs.Bounds.{tariff_most, shared_tariff_most, tariffs_most, charged_most, total_most, TariffsFit, SharesFit, LocalFits, RestFits}
use Rattle.integers.proofs.Sum.{sum_part, Σ-within, Σ-weighted}
use Rattle.integers.proofs.Div.{floor_le, floor_ge}
use Rattle.sizes.proofs.Ranges.{Ranged}
use Rattle.sizes.proofs.Kilowatts.{kilowatts}
use Rattle.sizes.proofs.Metres.{zones_within, over_zones_within}

-- between two whole numbers
abbrev Between : (low z high : ℤ) → Type 0
Between low z high = (low ≤ℤ z) × (z ≤ℤ high)

-- over plain numbers: target t, income o and l, kilowatts k, of which each brings in up to w and 5 x 10^9
rest_between : (t o l : ℤ) (w k : ℕ) → Between (pos 0) t (pos 10000000000000000) → nat_abs o ≤ w * k → nat_abs l ≤ 5000000000 * k
    → Between (neg_ℤ (pos ((w + 5000000000) * k))) (t -ℤ o -ℤ l) (pos (10000000000000000 + (w + 5000000000) * k))
rest_between t o l w k h a b = (
  simp Z (omega (arith, simp Z at h.0, simp Z at a, simp Z at b)),
  simp Z (omega (arith, simp Z at h.1, simp Z at a, simp Z at b)),
)

rest_size : (z : ℤ) (c k : ℕ) → k ≤ 100000000 → Between (neg_ℤ (pos (c * k))) z (pos (10000000000000000 + c * k)) → nat_abs z ≤ 10000000000000000 + c * 100000000
rest_size z c k h b = simp Z (omega (arith, mul-le-mul_left c h, simp Z at b.0, simp Z at b.1))

residual_between : (z : ℤ) (c k : ℕ) → 1 ≤ k → Between (neg_ℤ (pos (c * k))) z (pos (10000000000000000 + c * k))
    → Between (neg_ℤ (pos c)) (residual_of z k) (pos (10000000000000000 + c))
unfolding residual_of
residual_between z c k h b = (
  floor_ge z (neg_ℤ (pos c)) k h (simp Z (omega (arith, simp Z at b.0))),
  floor_le z (pos (10000000000000000 + c)) k h (simp Z (omega (arith, simp Z at b.1))),
)

pub remainder_between : (z : ℤ) (k : ℕ) → 1 ≤ k → (pos 0 ≤ℤ remainder_of z k) × (remainder_of z k <ℤ pos k)
unfolding remainder_of residual_of
remainder_between z k h =
    let f = floor_is z k h in
    (simp Z (omega (arith, simp Z at f.low)), simp Z (omega (arith, simp Z at f.high)))

total_between : (t r : ℤ) (b c : ℕ) → nat_abs t ≤ b → Between (neg_ℤ (pos c)) r (pos (10000000000000000 + c))
    → Between (neg_ℤ (pos (c + b))) (t +ℤ r) (pos (10000000000000000 + (c + b)))
total_between t r b c h k = (simp Z (omega (arith, simp Z at h, simp Z at k.0)), simp Z (omega (arith, simp Z at h, simp Z at k.1)))

target_of_lem : (revenue p : ℕ) → revenue ≤ 10000000000 → p ≤ 1000 → Between (pos 0) (pos (revenue * p * 1000)) (pos 10000000000000000)
target_of_lem revenue p h j = (simp Z (omega arith), simp Z (omega (arith, mul-le-mul h j)))

-- a figure of each background of the edition is within its bound: so together they are within both
both_within : (e : Edition) (f : Background → ℤ) (most : Background → ℕ) → ((b : Background) → Of b e → nat_abs (f b) ≤ most b) → nat_abs (over_backgrounds e f) ≤ most YearRound + most Peak
unfolding over_backgrounds
both_within First f most h = omega (arith, h YearRound tt)
both_within Second f most h = omega (arith, abs-add (f YearRound) (f Peak), h YearRound tt, h Peak tt)

module _ (G : Grid) (runs : Runs) (share : List ℕ) (r : Ranged G)
    (t : (b : Background) → Of b G.settings.edition → TariffsFit G runs share b) (s : SharesFit G runs share) (l : LocalFits G runs) where
  abbrev form : Side → Form
  form side = form_of G share side

  target_between : (side : Side) → Between (pos 0) (target G side) (pos 10000000000000000)
  target_between Generation = target_of_lem G.settings.revenue (1000 - G.settings.p) r.revenue (omega arith)
  target_between Demand = target_of_lem G.settings.revenue G.settings.p r.revenue r.p

  income_to_lem : (b : Background) → Of b G.settings.edition → (side : Side) (k : ℕ)
      → nat_abs (Σ k (λ i. zone_tariff G runs share b side (suc i) *ℤ pos (zone_paying_in G b side (suc i)))) ≤ tariff_most (form side) b * sum k (λ i. zone_paying_in G b side (suc i))
  income_to_lem b h side k = zones_within G r b (zone_tariff G runs share b side) (tariff_most (form side) b) ((t b h).of_zone side) side k

  zone_income : (b : Background) → Of b G.settings.edition → (side : Side) → nat_abs (over_zones G b side (zone_tariff G runs share b side)) ≤ tariff_most (form side) b * total_paying G side
  zone_income b h side = le_trans (over_zones_within G r b (zone_tariff G runs share b side) (tariff_most (form side) b) ((t b h).of_zone side) side)
      (mul-le-mul_left (tariff_most (form side) b) ((kilowatts G r).in_all b side))

  -- 02, request 6: a shared tariff is charged on no more than the kilowatts that pay
  shared_to_lem : (side : Side) (k : ℕ)
      → nat_abs (Σ k (λ i. shared_tariff G runs share side (suc i) *ℤ pos (shared_kw (priced G runs share side).sharing (suc i)))) ≤ shared_tariff_most (form side) * sum k (λ i. zone_paying G side (suc i))
  shared_to_lem side k =
      Σ-within (shared_tariff_most (form side)) k _ (λ i. zone_paying G side (suc i))
      (λ i h. abs-mul-le (shared_tariff G runs share side (suc i)) (pos (shared_kw (priced G runs share side).sharing (suc i))) (s.of_zone side (suc i)) (s.kw side (suc i)))

  shared_income_lem : (side : Side) → nat_abs (shared_income (priced G runs share side)) ≤ shared_tariff_most (form side) * total_paying G side
  unfolding charging.priced basis
  shared_income_lem side = rw ((kilowatts G r).zones_all side) at (shared_to_lem side (zones G side))

  wider_within : (side : Side) → nat_abs (wider_income (priced G runs share side)) ≤ (tariffs_most (form side) + shared_tariff_most (form side)) * total_paying G side
  unfolding charging.priced basis
  wider_within side = omega (
    arith,
    abs-add (over_backgrounds G.settings.edition (λ b. over_zones G b side (zone_tariff G runs share b side))) (shared_income (priced G runs share side)),
    both_within G.settings.edition (λ b. over_zones G b side (zone_tariff G runs share b side)) (λ b. tariff_most (form side) b * total_paying G side) (λ b h. zone_income b h side),
    shared_income_lem side,
  )

  local_to_lem : (k : ℕ) → k ≤ length G.nodes → nat_abs (Σ k (λ v. local_tariff G runs v *ℤ pos (paying_tec G v))) ≤ 5000000000 * sum k (paying_tec G)
  local_to_lem k h = Σ-weighted 5000000000 k (local_tariff G runs) (paying_tec G) (λ v m. l.of_node v (omega arith))

  pays_to : (k : ℕ) → k ≤ length G.nodes → sum k (paying_tec G) ≤ 100000000
  unfolding total_paying paying
  pays_to k h = le_trans (sum_part k (length G.nodes) (paying_tec G) h) (r.payers Generation).most

  local_within : (side : Side) → nat_abs (local_income G runs side) ≤ 5000000000 * total_paying G side
  unfolding charging.local_income total_paying paying basis
  local_within Generation = local_to_lem (length G.nodes) (le_refl _)
  local_within Demand = omega arith

  rest_range : (side : Side)
      → Between (neg_ℤ (pos (charged_most (form side) * total_paying G side))) (rest G runs share side) (pos (10000000000000000 + charged_most (form side) * total_paying G side))
  unfolding charging.rest charging.priced basis
  rest_range side =
      rest_between (target G side) (wider_income (priced G runs share side)) (local_income G runs side) (tariffs_most (form side) + shared_tariff_most (form side)) (total_paying G side)
      (target_between side) (wider_within side) (local_within side)

  rest_most_lem : (side : Side) → nat_abs (rest G runs share side) ≤ 10000000000000000 + charged_most (form side) * 100000000
  rest_most_lem side = rest_size (rest G runs share side) (charged_most (form side)) (total_paying G side) (r.payers side).most (rest_range side)

  residual_range_lem : (side : Side) → Between (neg_ℤ (pos (charged_most (form side)))) (residual G runs share side) (pos (10000000000000000 + charged_most (form side)))
  unfolding charging.residual charging.priced basis
  residual_range_lem side = residual_between (rest G runs share side) (charged_most (form side)) (total_paying G side) (r.payers side).least (rest_range side)

  total_range_lem : (side : Side) (zone : ℕ)
      → Between (neg_ℤ (pos (total_most (form side)))) (zone_total G runs share side zone) (pos (10000000000000000 + total_most (form side)))
  unfolding charging.zone_total charging.priced basis
  total_range_lem side zone =
      total_between (over_backgrounds G.settings.edition (λ b. zone_tariff G runs share b side zone)) (residual G runs share side) (tariffs_most (form side)) (charged_most (form side))
      (both_within G.settings.edition (λ b. zone_tariff G runs share b side zone) (tariff_most (form side)) (λ b h. (t b h).of_zone side zone)) (residual_range_lem side)

  remainder_range_lem : (side : Side) → (pos 0 ≤ℤ remainder G runs share side) × (remainder G runs share side <ℤ pos (total_paying G side))
  unfolding charging.remainder charging.priced basis
  remainder_range_lem side = remainder_between (rest G runs share side) (total_paying G side) (r.payers side).least

  pub rest_fits : RestFits G runs share
  rest_fits = record {
    target_most = λ side. let b = target_between side in simp Z (omega (arith, simp Z at b.0, simp Z at b.1));
    income_to = λ b h side k _. income_to_lem b h side k;
    shared_to = λ side k _. shared_to_lem side k;
    wider_most = wider_within;
    local_to = local_to_lem;
    local_most = λ k h. omega (arith, local_to_lem k h, pays_to k h);
    rest_most = rest_most_lem;
    residual_range = residual_range_lem;
    total_range = total_range_lem;
    remainder_range = remainder_range_lem;
  }
