-- Sizes of what is made of a side's zones.
use mathlib.Core.Path.{◌≡◌, refl, ap}
use mathlib.Core.Bool.{Bool, true, false}
use mathlib.Core.List.{List}
use mathlib.Core.Logic.{◌↔◌}
use lib.ListN.{length, take, length-take, get_or-eq_default}
use Rattle.std.specs.List.{All}
use Rattle.std.proofs.lemmas.List.{get_or-take}
use Rattle.std.proofs.lemmas.List.Elements.{All-get_or, All-from_get_or}
use Prim.Native.Nat.{ℕ, zero, suc, ◌+◌, ◌*◌, ◌-◌, ◌≤◌, ◌<◌}
use native.Mathlib.Decide.{dec_lt}
use native.Mathlib.Nat.{le_refl, le_trans}
use native.Mathlib.Omega.{arith}
use lib.Dec.{leb}
use lib.IntN.{ℤ, pos, nat_abs, ◌-ℤ◌, ◌*ℤ◌}
use mir.Syntax.{w64}
use mir.Val.{SFits}
use Rattle.integers.specs.Numbers.{Σ}
use Rattle.integers.proofs.Div.{nearest_zero, nearest_within}
use Rattle.integers.proofs.Laws.{abs-add, abs-sub, abs-mul-le, sfits_abs}
use Rattle.integers.proofs.Sum.{sum-zero, sum_more, sum_bound, sum_item, Σ-zero, Σ-more, Σ-weighted}
use Rattle.meaning.specs.declared.Edition.{Edition}
use Rattle.meaning.specs.declared.Kw.{Kw}
use Rattle.meaning.specs.declared.Metres.{Metres}
use Rattle.meaning.specs.declared.Side.{Side}
use Rattle.meaning.specs.declared.Side.TheVariants.{Generation, Demand}
use Rattle.meaning.specs.declared.MicroPerKw.{MicroPerKw}
use Rattle.meaning.specs.declared.Form.{Form}
use Rattle.meaning.specs.declared.ZoneFigures.{ZoneFigures}
use Rattle.meaning.specs.declared.SideFigures.{SideFigures}
use Rattle.meaning.specs.Columns.{kilowatts, distance, price, kw_at, metres_at, column, no_line}
use Rattle.meaning.specs.Charging.{metres, centre, with_c, tariff, no_wider}
use Rattle.meaning.proofs.Rows.{rows_past}
use Rattle.meaning.proofs.Columns.{column_at, column_past}
use Rattle.meaning.proofs.Says.{Says, says_as, says_le, says_all}
use Rattle.rests.specs.declared.Rest.{Rest}
use Rattle.rests.specs.Rests.{Holds, Charges}
use Rattle.rests.proofs.Exact.{all_hold, holds_fewer, residual_near, remainder_near}
use Rattle.zones.specs.declared.ZoneSums.{ZoneSums}
use Rattle.zones.specs.Sums.{no_sums, zone_sums, SumsFit}
use Rattle.zones.proofs.Laws.{zone_fits, metres_near}
use Rattle.boundaries.specs.declared.Shares.{Shares}
use Rattle.boundaries.specs.declared.Split.{Split}
use Rattle.chains.proofs.Laws.{OnlyZones}
use Rattle.boundaries.specs.Boundaries.{near, splits}
use Rattle.boundaries.proofs.Exact.{splits_most, near_is}
use Rattle.tariffs.specs.declared.over.Over.{Over}
use Rattle.tariffs.specs.declared.zonal.Zonal.{Zonal}
use Rattle.tariffs.specs.declared.wider.Terms.{Terms}
use Rattle.tariffs.specs.declared.priced.Priced.{Priced as PricedLines}
use Rattle.meaning.specs.declared.WiderFigures.{WiderFigures}
use Rattle.meaning.specs.declared.SharedFigures.{SharedFigures}
use Rattle.tariffs.specs.Sides.{metres_from, sums_in, sums_of, pays_in, over_from, with_zone, metres_over, no_parts, parts_in, not_shared_over, shared_zones, shares_fit, tariff_from, wider_from, wider_over, wider_at, shared_tariff_from, shared_over, shared_at, line_from, form_in, side_from, AllFit, OverFits, Ready, Prices, MetresFit, PartsFit, TermsFit, LinesFit, ZonalFits, SharesFit, SideFits}
use Rattle.tariffs.specs.Case.{local_from}

-- ---- the sums of a side's zones, whatever its columns are
pub sums_fit : (side : Side) (n : ℕ) (zone : List ℕ) (weight paying : List Kw) (wider : List ℤ) → AllFit (zone_sums side n zone weight paying wider)
unfolding zone_sums
sums_fit side n zone weight paying wider = record { each = zone_fits side zone weight paying wider n; past = λ k h. rows_past no_sums 32 _ k h }

-- ---- step 8, zone by zone
pub zonal_near : (z : ZoneSums) → SumsFit z → nat_abs (metres_from z) ≤ 10000000
unfolding metres_from
zonal_near z f = metres_near z f

pub over_none : (sums : List ZoneSums) → over_from sums 0 ≡ record { metres = pos 0; total = kilowatts 0 }
unfolding over_from
over_none sums = rw (Σ-zero, sum-zero)

pub over_more : (sums : List ZoneSums) (k : ℕ) → over_from sums (k + 1) ≡ with_zone (over_from sums k) (sums_in sums k)
unfolding over_from with_zone
over_more sums k = rw (Σ-more k (λ i. metres_from (sums_in sums i) *ℤ pos (sums_in sums i).paying.0), sum_more k (λ i. (sums_in sums i).paying.0))

pub over_fits : (sums : List ZoneSums) → AllFit sums → (k : ℕ) → k < 32 → OverFits (over_from sums k)
unfolding over_from
over_fits sums f k h =
    record {
      metres = Σ-weighted 10000000 k (λ i. metres_from (sums_in sums i)) (λ i. (sums_in sums i).paying.0) (λ i l. zonal_near (sums_in sums i) (f.each i (omega arith)));
      total = omega (arith, sum_bound 25600000000 k (λ i. (sums_in sums i).paying.0) (λ i l. (f.each i (omega arith)).paying));
    }

pub over_near : (sums : List ZoneSums) → AllFit sums → (n : ℕ) → n ≤ 32 → nat_abs (over_from sums n).metres ≤ 10000000 * (over_from sums n).total.0
unfolding over_from
over_near sums f n h = Σ-weighted 10000000 n (λ i. metres_from (sums_in sums i)) (λ i. (sums_in sums i).paying.0) (λ i l. zonal_near (sums_in sums i) (f.each i (omega arith)))

-- C
module _ (p : ℕ) (g d : Over) (hp : p ≤ 1000) (rg : Ready g) (rd : Ready d) where
  first_most : nat_abs (pos (1000 - p) *ℤ d.metres) ≤ (1000 - p) * (10000000 * d.total.0)
  first_most = abs-mul-le (pos (1000 - p)) d.metres (le_refl (1000 - p)) rd.metres

  second_most : nat_abs (pos p *ℤ g.metres) ≤ p * (10000000 * g.total.0)
  second_most = abs-mul-le (pos p) g.metres (le_refl p) rg.metres

  pub below_first : p * g.total.0 ≤ 100000000000
  below_first = native.Mathlib.Nat.mul-le-mul hp rg.total

  pub below_second : (1000 - p) * d.total.0 ≤ 100000000000
  below_second = let h : 1000 - p ≤ 1000 = omega arith in native.Mathlib.Nat.mul-le-mul h rd.total

  pub first_fits : SFits w64 (pos (1000 - p) *ℤ d.metres)
  first_fits = sfits_abs (pos (1000 - p) *ℤ d.metres) (omega (arith, first_most, below_second))

  pub second_fits : SFits w64 (pos p *ℤ g.metres)
  second_fits = sfits_abs (pos p *ℤ g.metres) (omega (arith, second_most, below_first))

  mixed_most : nat_abs (pos (1000 - p) *ℤ d.metres -ℤ pos p *ℤ g.metres) ≤ 10000000 * (p * g.total.0 + (1000 - p) * d.total.0)
  mixed_most = omega (arith, abs-sub (pos (1000 - p) *ℤ d.metres) (pos p *ℤ g.metres), first_most, second_most)

  pub mixed_fits : SFits w64 (pos (1000 - p) *ℤ d.metres -ℤ pos p *ℤ g.metres)
  mixed_fits = sfits_abs (pos (1000 - p) *ℤ d.metres -ℤ pos p *ℤ g.metres) (omega (arith, mixed_most, below_first, below_second))

  pub c_near : nat_abs (centre p g.metres d.metres g.total.0 d.total.0) ≤ 10000000
  c_near = nearest_within (pos (1000 - p) *ℤ d.metres -ℤ pos p *ℤ g.metres) 10000000 (p * g.total.0 + (1000 - p) * d.total.0) mixed_most

-- ---- metres that tariffs are of
-- the array has the zones' own, and 0 for what is no zone of it
module _ (sums : List ZoneSums) (f : AllFit sums) where
  pub metres_at_lem : (k : ℕ) → k < 32 → metres_at (metres_over sums) k ≡ metres_from (sums_in sums k)
  unfolding metres_over
  metres_at_lem k h = ap (λ (m : Metres). m.0) (column_at (distance (pos 0)) 32 _ (distance (pos 0)) 32 k h h)

  abbrev own : ℕ → ℤ
  own zone = metres_from (sums_of sums zone)

  own_only : OnlyZones (pos 0) own
  unfolding metres_from
  own_only = record { none = nearest_zero 0; past = past }
    where
      past : (z : ℕ) → 32 < z → own z ≡ pos 0
      past zero h = absurd (omega arith)
      past (suc k) h = rw (f.past k (omega arith)) (nearest_zero 0)

  own_near : (z : ℕ) → nat_abs (own z) ≤ 10000000
  own_near zero = rw own_only.none (omega arith)
  own_near (suc k) = go (dec_lt k 32)
    where
      go : Dec (k < 32) → nat_abs (own (suc k)) ≤ 10000000
      go (yes h) = zonal_near (sums_in sums k) (f.each k h)
      go (no h) = rw (own_only.past (suc k) (omega arith)) (omega arith)

  pub near_own : near (metres_over sums) ≡ own
  near_own = near_is (metres_over sums) own_only own_near metres_at_lem

  pub own_fit : MetresFit (metres_over sums)
  own_fit = record { each = λ k h. rw (metres_at_lem k h) (omega (arith, zonal_near (sums_in sums k) (f.each k h))) }

-- the parts of any metres
module _ (shares : Shares) (count : ℕ) (m : List Metres) where
  pub parts_fit : PartsFit (splits shares count m)
  parts_fit = record {
    shared = λ k h. omega (arith, (splits_most shares count m no_parts k h).shared);
    not_shared = λ k h. (splits_most shares count m no_parts k h).not_shared;
  }

pub not_shared_at : (parts : List Split) (k : ℕ) → k < 32 → metres_at (not_shared_over parts) k ≡ (parts_in parts k).not_shared.0
unfolding not_shared_over
not_shared_at parts k h = ap (λ (m : Metres). m.0) (column_at (distance (pos 0)) 32 _ (distance (pos 0)) 32 k h h)

pub not_shared_fit : (parts : List Split) → PartsFit parts → MetresFit (not_shared_over parts)
not_shared_fit parts f = record { each = λ k h. rw (not_shared_at parts k h) (f.not_shared k h) }

-- ---- steps 9 and 10
pub with_C_near : (side : Side) (c m : ℤ) → nat_abs c ≤ 10000000 → nat_abs m ≤ 650000000 → nat_abs (with_c side c m) ≤ 660000000
with_C_near Generation c m hc hm = omega (arith, abs-add m c)
with_C_near Demand c m hc hm = omega (arith, abs-sub m c)

pub price_most : {m : ℤ} {constant factor : ℕ} → Prices m constant factor → nat_abs (tariff m constant factor) ≤ 330000000000
unfolding tariff
price_most {m = m} {constant = k} {factor = f} p =
    nearest_within (m *ℤ pos k *ℤ pos f) 330000000000 100000 (abs-mul-le (m *ℤ pos k) (pos f) (abs-mul-le m (pos k) p.near p.constant) p.factor)

module _ (t : Terms) (f : TermsFit t) (m : ℤ) (h : nat_abs m ≤ 650000000) where
  pub priceable : Prices (with_c t.side t.c.0 m) t.constant t.factor
  priceable = record { near = with_C_near t.side t.c.0 m f.near h; constant = f.constant; factor = f.factor }

  pub shared_priceable : Prices m t.constant t.factor
  shared_priceable = record { near = omega (arith, h); constant = f.constant; factor = f.factor }

  tariff_most : nat_abs (tariff_from t m) ≤ 330000000000
  unfolding tariff_from
  tariff_most = price_most priceable

  shared_most : nat_abs (shared_tariff_from t m) ≤ 330000000000
  unfolding shared_tariff_from
  shared_most = price_most shared_priceable

-- ---- local lines
pub local_priceable : (u : ℤ) {k f : ℕ} → k ≤ 10000 → f ≤ 5000 → Prices (local_from u) k f
unfolding local_from
local_priceable u hk hf = record { near = go (leb (nat_abs (metres u)) 10000000) refl; constant = hk; factor = hf }
  where
    go : (b : Bool) → leb (nat_abs (metres u)) 10000000 ≡ b → nat_abs (local_from u) ≤ 660000000
    go true h = rw h (omega (arith, (says_le {m = nat_abs (metres u)} {n = 10000000}).0 h))
    go false h = rw h (omega arith)

-- ---- the tariffs of a background, taken off a rest
module _ {m : List Metres} {z : Zonal} {payers : ℕ} {t : Terms} (fm : MetresFit m) (f : ZonalFits z payers) (g : TermsFit t) where
  zone_most : (k : ℕ) → k < 32 → nat_abs (tariff_from t (metres_at m k)) ≤ 330000000000
  zone_most k h = tariff_most t g (metres_at m k) (fm.each k h)

  charges : Charges payers z.count (λ k. tariff_from t (metres_at m k)) (pays_in z.sums)
  charges = record {
    price = λ k h. omega (arith, zone_most k (omega (arith, f.few)));
    part = λ k h. le_trans (sum_item z.count k (pays_in z.sums) h) f.light;
  }

  pub lines_fit : (rest : Rest) → LinesFit (wider_over m z.sums z.count t rest payers).lines
  unfolding wider_over wider_from
  lines_fit rest = record { each = λ k h. go k h (dec_lt k z.count) }
    where
      go : (k : ℕ) → k < 32 → Dec (k < z.count) → nat_abs (wider_at (wider_over m z.sums z.count t rest payers).lines k).tariff.0 ≤ 330000000000
      go k h (yes l) = rw (column_at no_wider 32 (λ i. wider_from t (metres_at m i)) no_wider z.count k l h) (zone_most k h)
      go k h (no l) = rw (column_past no_wider 32 (λ i. wider_from t (metres_at m i)) no_wider z.count k (omega arith) h) (omega arith)

  taken_off : {rest : Rest} {value : ℤ} (n : ℕ) → Holds rest value payers (n + 32)
      → Holds (wider_over m z.sums z.count t rest payers).rest (value -ℤ Σ z.count (λ k. tariff_from t (metres_at m k) *ℤ pos (pays_in z.sums k))) payers n
  unfolding wider_over
  taken_off n h = all_hold z.count n (holds_fewer (z.count + n) (omega (arith, f.few)) h) charges

-- ---- the kilowatts of the shared tariffs, as they are tested
module _ (shares : Shares) (count payers : ℕ) where
  pub shares_say : Says (shares_fit shares count payers) (SharesFit shares count payers)
  unfolding shares_fit
  shares_say = says_as (says_all (shared_zones shares.in_force count) (λ k. says_le {m = kw_at shares.kw k} {n = payers})) (λ t. record { each = t }, λ r. r.each)

  -- the same of a list of them
  pub each_within : All (λ (x : Kw). x.0 ≤ payers) (take (shared_zones shares.in_force count) shares.kw) ↔ SharesFit shares count payers
  each_within =
      let kw = shares.kw in
      let n = shared_zones shares.in_force count in
      let within : Kw → Type 0 = λ x. x.0 ≤ payers in (
        λ h. record { each = λ k l. here h k l (dec_lt k (length kw)) },
        λ f. All-from_get_or within (take n kw) (kilowatts 0) (λ k l. rw (get_or-take n kw k (kilowatts 0) (omega (arith, length-take n kw))) (f.each k (omega (arith, length-take n kw)))),
      )
    where
      here : All (λ (x : Kw). x.0 ≤ payers) (take (shared_zones shares.in_force count) shares.kw) → (k : ℕ) → k < shared_zones shares.in_force count → Dec (k < length shares.kw) → kw_at shares.kw k ≤ payers
      here h k l (yes i) =
          let n = shared_zones shares.in_force count in
          rw (get_or-take n shares.kw k (kilowatts 0) l) at (All-get_or (λ (x : Kw). x.0 ≤ payers) (take n shares.kw) k (kilowatts 0) (omega (arith, length-take n shares.kw)) h)
      here h k l (no i) = let past : length shares.kw ≤ k = omega arith in omega (arith, ap (λ (x : Kw). x.0) (get_or-eq_default shares.kw (kilowatts 0) past))

-- ---- the shared tariffs
pub shared_few : (in_force : Bool) (count : ℕ) → count ≤ 32 → shared_zones in_force count ≤ 32
unfolding shared_zones
shared_few true count h = h
shared_few false count h = omega arith

module _ {parts : List Split} {shares : Shares} {count payers : ℕ} {t : Terms} (fp : PartsFit parts) (few : count ≤ 32) (f : SharesFit shares count payers) (g : TermsFit t) where
  shared_charges : Charges payers (shared_zones shares.in_force count) (λ k. shared_tariff_from t (parts_in parts k).shared.0) (kw_at shares.kw)
  shared_charges = record {
    price = λ k h. omega (arith, shared_most t g (parts_in parts k).shared.0 (fp.shared k (omega (arith, shared_few shares.in_force count few))));
    part = f.each;
  }

  shared_taken_off : {rest : Rest} {value : ℤ} (n : ℕ) → Holds rest value payers (n + 32)
      → Holds (shared_over parts shares.kw (shared_zones shares.in_force count) t rest payers).rest
      (value -ℤ Σ (shared_zones shares.in_force count) (λ k. shared_tariff_from t (parts_in parts k).shared.0 *ℤ pos (kw_at shares.kw k))) payers n
  unfolding shared_over
  shared_taken_off n h = let l = shared_few shares.in_force count few in
      all_hold (shared_zones shares.in_force count) n (holds_fewer (shared_zones shares.in_force count + n) (omega (arith, l)) h) shared_charges

-- ---- a side: what is priced of it, one after the other
module _ (shares : Shares) (y : Zonal) where
  abbrev pub parts_of : List Split
  parts_of = splits shares y.count (metres_over y.sums)

  pub own_parts_fit : PartsFit parts_of
  own_parts_fit = parts_fit shares y.count (metres_over y.sums)

  pub told_parts_fit : {metres : List Metres} {ps : List Split} → metres ≡ metres_over y.sums → ps ≡ splits shares y.count metres → PartsFit ps
  told_parts_fit em ep = rw (ep, em) own_parts_fit

module _ (shares : Shares) (y p : Zonal) (t u : Terms) (rest : Rest) (payers : ℕ) where
  abbrev parts : List Split
  parts = parts_of shares y

  abbrev pub year_round_lem : PricedLines WiderFigures 32
  year_round_lem = wider_over (not_shared_over parts) y.sums y.count t rest payers

  abbrev pub at_peak_lem : PricedLines WiderFigures 32
  at_peak_lem = wider_over (metres_over p.sums) p.sums p.count u year_round_lem.rest payers

  abbrev pub shared : PricedLines SharedFigures 32
  shared = shared_over parts shares.kw (shared_zones shares.in_force y.count) t at_peak_lem.rest payers

  pub left_holds : (f : SideFits shares y p t u rest payers) → Holds shared.rest
      (f.value -ℤ Σ y.count (λ k. tariff_from t (metres_at (not_shared_over parts) k) *ℤ pos (pays_in y.sums k))
      -ℤ Σ p.count (λ k. tariff_from u (metres_at (metres_over p.sums) k) *ℤ pos (pays_in p.sums k))
      -ℤ Σ (shared_zones shares.in_force y.count) (λ k. shared_tariff_from t (parts_in parts k).shared.0 *ℤ pos (kw_at shares.kw k))) payers 0
  left_holds f =
      shared_taken_off (own_parts_fit shares y) f.year_round.few f.shared f.terms 0
      (taken_off (own_fit p.sums f.peak.all) f.peak f.peak_terms 32 (taken_off (not_shared_fit parts (own_parts_fit shares y)) f.year_round f.terms 64 f.holds))

  -- what the code prices, one after the other, is that
  pub priced : {own ms ps : List Metres} {split : List Split} {n : ℕ} {a b : PricedLines WiderFigures 32} {s : PricedLines SharedFigures 32}
      → ms ≡ metres_over y.sums → split ≡ splits shares y.count ms → own ≡ not_shared_over split → a ≡ wider_over own y.sums y.count t rest payers
      → ps ≡ metres_over p.sums → b ≡ wider_over ps p.sums p.count u a.rest payers
      → n ≡ shared_zones shares.in_force y.count → s ≡ shared_over split shares.kw n t b.rest payers
      → (a ≡ year_round_lem) × (b ≡ at_peak_lem) × (s ≡ shared)
  priced {a = a} {b = b} em ex eo ea ep eb en es = let first : a ≡ year_round_lem = rw (ea, eo, ex, em) refl in
      let second : b ≡ at_peak_lem = rw (eb, ep, first) refl in
      (first, second, rw (es, ex, em, en, second) refl)

  pub told_residual_near : {s : PricedLines SharedFigures 32} → s ≡ shared → SideFits shares y p t u rest payers → nat_abs s.rest.each ≤ 9000000000000000000
  told_residual_near e f = rw e (residual_near (left_holds f))

  pub told_remainder_near : {s : PricedLines SharedFigures 32} → s ≡ shared → SideFits shares y p t u rest payers → s.rest.over < 100000000
  told_remainder_near e f = rw e (remainder_near (left_holds f))

  -- its figures, as the code puts them together
  pub side_from_lem : (e : Edition) {a b : PricedLines WiderFigures 32} {s : PricedLines SharedFigures 32} {form : Form} {r : MicroPerKw} {left : ℤ} {zone : List ZoneFigures}
      → a ≡ year_round_lem → b ≡ at_peak_lem → s ≡ shared → form ≡ form_in e shares.in_force → r.0 ≡ s.rest.each → left ≡ pos s.rest.over
      → zone ≡ column no_line 32 y.count (λ k. line_from (sums_in y.sums k).weight (wider_at a.lines k) (wider_at b.lines k) (shared_at s.lines k) r)
      → ◌≡◌ {A = SideFigures} (record { form = form; zones = y.count; residual = r; remainder = left; zone = zone }) (side_from e shares y p t u rest payers)
  unfolding side_from
  side_from_lem e ea eb es ef er el ez = let q = ap price er in rw (ez, ef, q, el, es, eb, ea) refl
