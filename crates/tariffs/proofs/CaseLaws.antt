-- The figures of a case, as the code makes them, and their sizes.
use mathlib.Core.Path.{◌≡◌, refl, sym, ◌∙◌, ap}
use mathlib.Core.Bool.{Bool, true, false, true≢false, ◌&&◌}
use mathlib.Core.List.{List}
use mathlib.Core.Option.{Option}
use Prim.Native.Nat.{ℕ, suc, ◌+◌, ◌*◌, ◌-◌, ◌≤◌, ◌<◌}
use native.Mathlib.Nat.{le_trans, mul-le-mul}
use native.Mathlib.Omega.{arith}
use lib.ListN.{length}
use lib.IntN.{ℤ, pos, ◌+ℤ◌, ◌-ℤ◌, ◌*ℤ◌}
use Rattle.integers.specs.Numbers.{sum, Σ, nearest}
use Rattle.integers.proofs.Core.{Z}
use Rattle.integers.proofs.Div.{nearest_zero}
use Rattle.integers.proofs.Sum.{sum_item, Σ-zero, Σ-same}
use Rattle.meaning.specs.declared.Kw.{Kw}
use Rattle.meaning.specs.declared.Metres.{Metres}
use Rattle.meaning.specs.declared.Edition.{Edition}
use Rattle.meaning.specs.declared.Edition.TheVariants.{First, Second}
use Rattle.meaning.specs.declared.Background.{Background}
use Rattle.meaning.specs.declared.Background.TheVariants.{YearRound, Peak}
use Rattle.meaning.specs.declared.Side.{Side}
use Rattle.meaning.specs.declared.Side.TheVariants.{Generation, Demand}
use Rattle.meaning.specs.declared.WiderFigures.{WiderFigures}
use Rattle.meaning.specs.declared.SharedFigures.{SharedFigures}
use Rattle.meaning.specs.declared.SideFigures.{SideFigures}
use Rattle.meaning.specs.declared.LocalFigures.{LocalFigures}
use Rattle.meaning.specs.declared.Figures.{Figures}
use Rattle.meaning.specs.declared.Settings.{Settings}
use Rattle.meaning.specs.Editions.{by_edition, over_backgrounds}
use Rattle.meaning.specs.Rows.{◌between◌and◌, found}
use Rattle.meaning.specs.Proposal.{potential}
use Rattle.meaning.specs.Columns.{distance, price, kw_at, metres_at, column, no_line, no_local}
use Rattle.meaning.specs.Sharing.{Sharing, sharing_on}
use Rattle.meaning.specs.Charging.{centre, tariff, target_of, rest_of, residual_of, remainder_of, no_wider, shared_by, Basis, Priced, C, local_tariff, local_income, local_figures, priced, own_metres, after_c, zone_tariff, income_in, wider_figures, shared_of, shared_tariff, shared_income, rest, residual, remainder, zone_total, zone_figures}
use Rattle.meaning.proofs.Columns.{column_at, column_past, column_same}
use Rattle.meaning.proofs.Says.{says_le, ◌also◌}
use Rattle.totals.specs.Totals.{total_of}
use Rattle.totals.proofs.TotalLaws.{total_is}
use Rattle.steps.specs.Nothing.{no_figures}
use Rattle.rests.specs.declared.Rest.{Rest}
use Rattle.rests.specs.Rests.{start_of, Holds, Charges}
use Rattle.rests.proofs.Exact.{start_holds, all_hold, holds_fewer, residual_is, remainder_is}
use Rattle.zones.specs.Sums.{nodes_in}
use Rattle.boundaries.specs.declared.Shares.{Shares}
use Rattle.boundaries.specs.declared.Split.{Split}
use Rattle.boundaries.specs.Boundaries.{sharing_in, splits}
use Rattle.tariffs.specs.declared.over.Over.{Over}
use Rattle.tariffs.specs.declared.zonal.Zonal.{Zonal}
use Rattle.tariffs.specs.declared.zonal.Backgrounds.{Backgrounds}
use Rattle.tariffs.specs.declared.priced.Priced.{Priced as PricedLines}
use Rattle.tariffs.specs.Sides.{sums_in, pays_in, over_from, metres_over, parts_in, not_shared_over, shared_zones, shares_fit, tariff_from, wider_from, wider_over, wider_at, shared_tariff_from, shared_over, shared_at, line_from, form_in, side_from, side_figures, AllFit, Ready, TermsFit, ZonalFits, SharesFit, SideFits}
use Rattle.tariffs.specs.Case.{local_from, node_from, local_of, by_side, zonal_in, shares_on, terms_of, basis_in, figures_of, settings_fit, totals_fit, figures_in, at_peak, backgrounds_over, figures_over, SettingsFit, NodesFit, SidesFit, CaseFits}
use Rattle.tariffs.proofs.Laws.{sums_fit, over_near, metres_at_lem, c_near, price_most, local_priceable, shares_say, year_round_lem, at_peak_lem, shared, left_holds}
use Rattle.tariffs.proofs.SharedLaws.{shared_found, not_shared_is, shared_line_is, shared_income_is}

-- ---- what is tested
pub settings_say : (s : Settings) → settings_fit s ≡ true → SettingsFit s
unfolding settings_fit
settings_say s h =
    let p = (says_le also says_le also says_le also says_le also says_le also says_le also says_le).0 h in
    record {
      generation_zones = p.0.0.0.0.0.0;
      demand_zones = p.0.0.0.0.0.1;
      p = p.0.0.0.0.1;
      constant = p.0.0.0.1;
      wider_factor = p.0.0.1;
      local_factor = p.0.1;
      revenue = p.1;
    }

-- targets in range
pub generation_share : {s : Settings} → SettingsFit s → s.revenue * (1000 - s.p) ≤ 10000000000000
generation_share {s = s} f = let h : 1000 - s.p ≤ 1000 = omega arith in mul-le-mul f.revenue h

pub demand_share : {s : Settings} → SettingsFit s → s.revenue * s.p ≤ 10000000000000
demand_share f = mul-le-mul f.revenue f.p

-- the kilowatts that pay on a side, and those in its zones
totals_say : (payers : Kw) (y p : Over) → totals_fit payers y p ≡ true → (((1 ≤ payers.0) × (payers.0 ≤ 100000000)) × (y.total.0 ≤ payers.0)) × (p.total.0 ≤ payers.0)
unfolding totals_fit ◌between◌and◌
totals_say payers y p h = (says_le also says_le also says_le also says_le).0 h

-- ---- the editions: in edition 1 peak has no zones, and says nothing
peak_line : (e : Edition) (count : ℕ) {own : ℕ} (k : ℕ) (f : ℕ → WiderFigures) → own ≡ at_peak e count → k < count → count ≤ 32 → wider_at (column no_wider 32 own f) k ≡ by_edition no_wider (f k) e
peak_line First count k f e h few = rw e (column_past no_wider 32 f no_wider 0 k (omega arith) (omega arith))
peak_line Second count k f e h few = rw e (column_at no_wider 32 f no_wider count k h (omega arith))

peak_sum : (e : Edition) (count : ℕ) {own : ℕ} (f : ℕ → ℤ) → own ≡ at_peak e count → Σ own f ≡ by_edition (pos 0) (Σ own f) e
peak_sum First count f e = rw e (Σ-zero f)
peak_sum Second count f e = refl

no_sum : {n : ℕ} (f : ℕ → ℤ) → n ≡ 0 → Σ n f ≡ pos 0
no_sum f e = rw e (Σ-zero f)

-- tariffs are taken off in the code's order: local, year round, peak, shared
swapped : (t a b x : ℤ) {p : ℤ} → p ≡ pos 0 → t -ℤ b -ℤ a -ℤ p -ℤ x ≡ t -ℤ (a +ℤ x) -ℤ b
swapped t a b x e = rw e (simp Z (omega arith))

gathered : (t a b p x : ℤ) → t -ℤ b -ℤ a -ℤ p -ℤ x ≡ t -ℤ (a +ℤ p +ℤ x) -ℤ b
gathered t a b p x = simp Z (omega arith)

left_is : (e : Edition) (target : ℕ) (local : ℤ) (f : Background → ℤ) (shared : ℤ) → f Peak ≡ by_edition (pos 0) (f Peak) e
    → pos target -ℤ local -ℤ f YearRound -ℤ f Peak -ℤ shared ≡ rest_of target (over_backgrounds e f +ℤ shared) local
unfolding over_backgrounds
left_is First target local f shared h = swapped (pos target) (f YearRound) local shared h
left_is Second target local f shared h = gathered (pos target) (f YearRound) local (f Peak) shared

total_none : (a b : ℤ) → a +ℤ pos 0 +ℤ b ≡ a +ℤ b
total_none a b = simp Z (omega arith)

line_is : (e : Edition) (weight : Kw) (y f : WiderFigures) {p : WiderFigures} (s : SharedFigures) (r : ℤ) (g : Background → ℤ) → y.tariff.0 ≡ g YearRound → f.tariff.0 ≡ g Peak → p ≡ by_edition no_wider f e
    → line_from weight y p s (price r) ≡ record { weight = weight; year_round = y; peak = by_edition no_wider f e; shared = s; total = price (over_backgrounds e g +ℤ r) }
unfolding line_from over_backgrounds
line_is First weight y f s r g ey ef ep = rw (ep, ey, total_none (g YearRound) r) refl
line_is Second weight y f s r g ey ef ep = rw (ep, ey, ef) refl

centre_none : (p tec load : ℕ) {x y : ℤ} → x ≡ pos 0 → y ≡ pos 0 → centre p x y tec load ≡ pos 0
centre_none p tec load ex ey = rw (ex, ey) (ap (λ (z : ℤ). nearest z (p * tec + (1000 - p) * load)) (none (pos (1000 - p)) (pos p)) ∙ nearest_zero (p * tec + (1000 - p) * load))
  where
    none : (a b : ℤ) → a *ℤ pos 0 -ℤ b *ℤ pos 0 ≡ pos 0
    none a b = simp Z (omega arith)

-- ---- a case in range
module _ (s : Settings) (z : Backgrounds) (payers load : Kw) (n : ℕ) (tec paying : List Kw) (local : List ℤ) (shares : Shares) (f : CaseFits s z payers load n paying local shares) where
  abbrev pub B : Basis
  B = basis_in s z payers.0 load.0 n tec paying local

  abbrev of : Background → Side → Zonal
  of = zonal_in z

  abbrev pub sharing : Option Sharing
  sharing = sharing_in shares (of YearRound Generation).count

  abbrev payers_of : Side → ℕ
  payers_of side = by_side payers.0 load.0 side

  zonal_fits : (b : Background) (side : Side) → ZonalFits (of b side) (payers_of side)
  unfolding over_from
  zonal_fits b side = record {
    all = f.sides.all b side;
    few = f.sides.few b side;
    light = rw (f.sides.over b side) at (f.light b side);
  }

  pub ready : (b : Background) (side : Side) → Ready (of b side).over
  ready b side = record {
    metres = rw (f.sides.over b side) (over_near (of b side).sums (f.sides.all b side) (of b side).count (f.sides.few b side));
    total = le_trans (f.light b side) (f.most side);
  }

  -- C
  c_is : (b : Background) → centre s.p (of b Generation).over.metres (of b Demand).over.metres (of b Generation).over.total.0 (of b Demand).over.total.0 ≡ C B b
  unfolding C basis_in over_from
  c_is b = rw (f.sides.over b Generation, f.sides.over b Demand) refl

  pub c_made : (b : Background) {c : Metres} → c.0 ≡ centre s.p (of b Generation).over.metres (of b Demand).over.metres (of b Generation).over.total.0 (of b Demand).over.total.0 → c.0 ≡ C B b
  c_made b e = e ∙ c_is b

  c_none : (of Peak Generation).count ≡ 0 → (of Peak Demand).count ≡ 0 → C B Peak ≡ pos 0
  unfolding C basis_in
  c_none g d = centre_none s.p _ _ (no_sum _ g) (no_sum _ d)

  peak_c_lem : C B Peak ≡ by_edition (pos 0) (C B Peak) s.edition
  peak_c_lem = go s.edition refl
    where
      none : (side : Side) → s.edition ≡ First → (of Peak side).count ≡ 0
      none side e = f.sides.peak_count side ∙ ap (λ (x : Edition). at_peak x (of YearRound side).count) e

      go : (e : Edition) → s.edition ≡ e → C B Peak ≡ by_edition (pos 0) (C B Peak) e
      go First e = c_none (none Generation e) (none Demand e)
      go Second e = refl

  c_fits : (b : Background) {c : Metres} → c.0 ≡ C B b → (side : Side) → TermsFit (terms_of s side c)
  c_fits b e side = record {
    near = rw (e, ← c_is b) (c_near s.p (of b Generation).over (of b Demand).over f.sides.settings.p (ready b Generation) (ready b Demand));
    constant = f.sides.settings.constant;
    factor = f.sides.settings.wider_factor;
  }

  -- ---- the rests
  target : Side → ℕ
  target side = target_of side s.p s.revenue

  target_most : (side : Side) → target side ≤ 10000000000000000
  unfolding target
  target_most Generation = omega (arith, generation_share f.sides.settings)
  target_most Demand = omega (arith, demand_share f.sides.settings)

  start : (side : Side) (m : ℕ) → m ≤ 1000000 → Holds (start_of (pos (target side)) (payers_of side)) (pos (target side)) (payers_of side) m
  start side m h = start_holds (pos (target side)) (payers_of side) m (f.some side) (f.most side) (omega (arith, target_most side)) h

  pub nodes_fit : NodesFit n local s.constant s.local_factor
  nodes_fit = record { few = f.few; run = f.run; constant = f.sides.settings.constant; factor = f.sides.settings.local_factor }

  local_charges : Charges payers.0 n (λ v. tariff (local_from (potential local v)) s.constant s.local_factor) (kw_at paying)
  local_charges = record {
    price = λ v h. omega (arith, price_most (local_priceable (potential local v) f.sides.settings.constant f.sides.settings.local_factor));
    part = λ v h. rw f.payers_are (sum_item n v (kw_at paying) h);
  }

  -- what is left when the local tariffs are taken off
  module _ {g : Rest} {nodal : PricedLines LocalFigures 256} (eg : g ≡ start_of (pos (target_of Generation s.p s.revenue)) payers.0) (el : nodal ≡ local_of n tec paying local s.constant s.local_factor g payers.0) where
    pub generation_left : Holds nodal.rest (pos (target_of Generation s.p s.revenue) -ℤ local_income B Generation) payers.0 96
    unfolding local_of local_income local_tariff basis_in target
    generation_left = rw (el, eg) (all_hold n 96 (holds_fewer (n + 96) (omega (arith, f.few)) (start Generation 352 (omega arith))) local_charges)

    pub lines_are : nodal.lines ≡ column no_local 256 n (λ v. node_from (kw_at tec v) (potential local v) s.constant s.local_factor)
    unfolding local_of node_from
    lines_are = rw el refl

  less_nothing : (x : ℤ) → x ≡ x -ℤ pos 0
  less_nothing x = simp Z (omega arith)

  pub demand_left : {d : Rest} → d ≡ start_of (pos (target_of Demand s.p s.revenue)) load.0 → Holds d (pos (target_of Demand s.p s.revenue) -ℤ local_income B Demand) load.0 96
  unfolding local_income target
  demand_left e = rw (e, ← less_nothing (pos (target_of Demand s.p s.revenue))) (start Demand 96 (omega arith))

  -- ---- what is shared of a side
  shared_on : (side : Side) → sharing_on side sharing ≡ sharing_in (shares_on side shares) (of YearRound side).count
  unfolding sharing_on sharing_in
  shared_on Generation = refl
  shared_on Demand = refl

  shares_on_lem : (side : Side) → SharesFit (shares_on side shares) (of YearRound side).count (payers_of side)
  unfolding shared_zones
  shares_on_lem Generation = f.shared
  shares_on_lem Demand = record { each = λ k h. absurd (omega arith) }

  -- ---- a side
  module _ (side : Side) where
    abbrev S : Priced
    S = priced B sharing side

    abbrev own : Shares
    own = shares_on side shares

    abbrev own_parts : List Split
    own_parts = splits own (of YearRound side).count (metres_over (of YearRound side).sums)

    -- its metres
    own_metres_lem : Background → List Metres
    own_metres_lem YearRound = not_shared_over own_parts
    own_metres_lem Peak = metres_over (of Peak side).sums

    few_zones : (of YearRound side).count ≤ 32
    few_zones = f.sides.few YearRound side

    on_side : S.sharing ≡ sharing_in own (of YearRound side).count
    unfolding priced
    on_side = shared_on side

    own_is : (b : Background) (k : ℕ) → k < 32 → metres_at (own_metres_lem b) k ≡ own_metres S b (suc k)
    unfolding own_metres_lem own_metres priced basis_in
    own_is YearRound k h = rw on_side (not_shared_is own (of YearRound side).count (of YearRound side).sums (f.sides.all YearRound side) k h)
    own_is Peak k h = metres_at_lem (of Peak side).sums (f.sides.all Peak side) k h

    module _ (b : Background) {c : Metres} (e : c.0 ≡ C B b) where
      tariff_is : (k : ℕ) → k < 32 → tariff_from (terms_of s side c) (metres_at (own_metres_lem b) k) ≡ zone_tariff S b (suc k)
      unfolding tariff_from zone_tariff after_c priced basis_in
      tariff_is k h = rw (own_is b k h, e) refl

      wider_is : (k : ℕ) → k < 32 → wider_from (terms_of s side c) (metres_at (own_metres_lem b) k) ≡ wider_figures S b (suc k)
      unfolding wider_from tariff_from wider_figures zone_tariff after_c priced basis_in
      wider_is k h = rw (own_is b k h, e) refl

      income_is : Σ (of b side).count (λ k. tariff_from (terms_of s side c) (metres_at (own_metres_lem b) k) *ℤ pos (pays_in (of b side).sums k)) ≡ income_in S b
      unfolding priced basis_in
      income_is = Σ-same (of b side).count _ _ (λ k h. ap (λ (t : ℤ). t *ℤ pos (pays_in (of b side).sums k)) (tariff_is k (omega (arith, f.sides.few b side))))

    none_at_peak : income_in S Peak ≡ by_edition (pos 0) (income_in S Peak) s.edition
    unfolding priced basis_in
    none_at_peak = peak_sum s.edition (of YearRound side).count _ (f.sides.peak_count side)

    module _ {c pc : Metres} (ec : c.0 ≡ C B YearRound) (ep : pc.0 ≡ C B Peak) {left : Rest} (h : Holds left (pos (target_of side s.p s.revenue) -ℤ local_income B side) (payers_of side) 96) where
      pub side_fits : SideFits own (of YearRound side) (of Peak side) (terms_of s side c) (terms_of s side pc) left (payers_of side)
      side_fits = record {
        year_round = zonal_fits YearRound side;
        peak = zonal_fits Peak side;
        shared = shares_on_lem side;
        terms = c_fits YearRound ec side;
        peak_terms = c_fits Peak ep side;
        value = pos (target_of side s.p s.revenue) -ℤ local_income B side;
        holds = h;
      }

      -- what the shared tariffs bring in
      shared_brings : Σ (shared_zones own.in_force (of YearRound side).count) (λ k. shared_tariff_from (terms_of s side c) (parts_in own_parts k).shared.0 *ℤ pos (kw_at own.kw k)) ≡ shared_income S
      unfolding shared_tariff shared_of priced basis_in
      shared_brings = rw on_side (shared_income_is own (of YearRound side).count (of YearRound side).sums (f.sides.all YearRound side) (terms_of s side c) few_zones)

      rest_is : side_fits.value
          -ℤ Σ (of YearRound side).count (λ k. tariff_from (terms_of s side c) (metres_at (not_shared_over own_parts) k) *ℤ pos (pays_in (of YearRound side).sums k))
          -ℤ Σ (of Peak side).count (λ k. tariff_from (terms_of s side pc) (metres_at (metres_over (of Peak side).sums) k) *ℤ pos (pays_in (of Peak side).sums k))
          -ℤ Σ (shared_zones own.in_force (of YearRound side).count) (λ k. shared_tariff_from (terms_of s side c) (parts_in own_parts k).shared.0 *ℤ pos (kw_at own.kw k)) ≡ rest S
      unfolding rest priced side_fits basis_in own_metres_lem
      rest_is = rw (income_is YearRound ec, income_is Peak ep, shared_brings)
          (left_is s.edition (target_of side s.p s.revenue) (local_income B side) (income_in S) (shared_income S) none_at_peak)

      abbrev made : PricedLines WiderFigures 32
      made = year_round_lem own (of YearRound side) (of Peak side) (terms_of s side c) (terms_of s side pc) left (payers_of side)

      abbrev made_at_peak : PricedLines WiderFigures 32
      made_at_peak = at_peak_lem own (of YearRound side) (of Peak side) (terms_of s side c) (terms_of s side pc) left (payers_of side)

      abbrev made_shared : PricedLines SharedFigures 32
      made_shared = shared own (of YearRound side) (of Peak side) (terms_of s side c) (terms_of s side pc) left (payers_of side)

      each_is : made_shared.rest.each ≡ residual S
      unfolding residual priced basis_in
      each_is = residual_is (left_holds _ _ _ _ _ _ _ side_fits) ∙ ap (λ (v : ℤ). residual_of v (payers_of side)) rest_is

      over_is : pos made_shared.rest.over ≡ remainder S
      unfolding remainder priced basis_in
      over_is = remainder_is (left_holds _ _ _ _ _ _ _ side_fits) ∙ ap (λ (v : ℤ). remainder_of v (payers_of side)) rest_is

      line_made : (k : ℕ) → k < (of YearRound side).count
          → line_from (sums_in (of YearRound side).sums k).weight (wider_at made.lines k) (wider_at made_at_peak.lines k) (shared_at made_shared.lines k) (price (residual S)) ≡ zone_figures S (suc k)
      unfolding wider_over shared_over zone_figures zone_total priced basis_in wider_figures own_metres_lem shared_tariff shared_of
      line_made k l =
          let few = few_zones in
          let a : wider_at made.lines k ≡ wider_figures S YearRound (suc k) = column_at no_wider 32 _ no_wider (of YearRound side).count k l (omega (arith, few)) ∙ wider_is YearRound ec k (omega (arith, few)) in
          let b : wider_at made_at_peak.lines k ≡ by_edition no_wider (wider_figures S Peak (suc k)) s.edition =
          peak_line s.edition (of YearRound side).count k _ (f.sides.peak_count side) l few ∙ ap (λ (w : WiderFigures). by_edition no_wider w s.edition) (wider_is Peak ep k (omega (arith, few))) in
          let d : shared_at made_shared.lines k ≡ shared_by (shared_of S (suc k)) (shared_tariff S (suc k)) = rw on_side (shared_line_is own (of YearRound side).count (of YearRound side).sums (f.sides.all YearRound side) (terms_of s side c) k l few) in
          rw (a, d) (line_is s.edition _ (wider_figures S YearRound (suc k)) (wider_figures S Peak (suc k)) (shared_by (shared_of S (suc k)) (shared_tariff S (suc k))) (residual S) (λ b. zone_tariff S b (suc k)) refl refl b)

      form_made : form_in s.edition own.in_force ≡ form_in S.edition (found S.sharing)
      unfolding priced basis_in
      form_made = ap (form_in s.edition) (sym (ap found on_side ∙ shared_found own (of YearRound side).count))

      side_made : side_from s.edition own (of YearRound side) (of Peak side) (terms_of s side c) (terms_of s side pc) left (payers_of side) ≡ side_figures S
      unfolding side_from side_figures priced basis_in
      side_made = rw (each_is, over_is, form_made, column_same no_line 32 (of YearRound side).count _ _ line_made) refl

      pub made_by : {r : SideFigures} → r ≡ side_from s.edition own (of YearRound side) (of Peak side) (terms_of s side c) (terms_of s side pc) left (payers_of side) → r ≡ side_figures S
      made_by e = e ∙ side_made

  -- ---- the case
  pub case_made : {c pc : Metres} {generation demand : SideFigures} {lines : List LocalFigures} → c.0 ≡ C B YearRound → pc.0 ≡ C B Peak
      → generation ≡ side_figures (priced B sharing Generation) → demand ≡ side_figures (priced B sharing Demand)
      → lines ≡ column no_local 256 n (λ v. node_from (kw_at tec v) (potential local v) s.constant s.local_factor)
      → ◌≡◌ {A = Figures} (record { edition = s.edition; c = c; peak_c = pc; generation = generation; demand = demand; nodes = n; local = lines }) (figures_of B sharing)
  unfolding figures_of local_figures local_tariff node_from basis_in
  case_made ec ep eg ed el = let a = ap distance ec in let b = ap distance (ep ∙ peak_c_lem) in rw (a, b, eg, ed, el) refl

-- ---- the totals, as they are tested
both : (a b : Bool) → (a && b) ≡ true → (a ≡ true) × (b ≡ true)
both true b e = (refl, e)
both false b e = absurd (true≢false (sym e))

module _ (s : Settings) (z : Backgrounds) (n : ℕ) (tec paying demand : List Kw) (local : List ℤ) (shares : Shares) {payers load : Kw} (ep : payers ≡ total_of n paying) (el : load ≡ total_of n demand) where
  abbrev generation_fit : Bool
  generation_fit = totals_fit payers (zonal_in z YearRound Generation).over (zonal_in z Peak Generation).over

  abbrev demand_fit : Bool
  demand_fit = totals_fit load (zonal_in z YearRound Demand).over (zonal_in z Peak Demand).over

  abbrev shared_fit : Bool
  shared_fit = shares_fit shares (zonal_in z YearRound Generation).count payers.0

  abbrev pub tested : Bool
  tested = generation_fit && demand_fit && shared_fit

  pub no_totals : tested ≡ false → no_figures ≡ figures_in s z n tec paying demand local shares
  unfolding figures_in
  no_totals h = rw (← ep, ← el, h) refl

  module _ (h : tested ≡ true) where
    pub ranged : figures_of (basis_in s z payers.0 load.0 n tec paying local) (sharing_in shares (zonal_in z YearRound Generation).count) ≡ figures_in s z n tec paying demand local shares
    unfolding figures_in
    ranged = rw (← ep, ← el, h) refl

    totals_both : (generation_fit && demand_fit) ≡ true
    totals_both = (both (generation_fit && demand_fit) shared_fit h).0

    generation_say : (((1 ≤ payers.0) × (payers.0 ≤ 100000000)) × ((zonal_in z YearRound Generation).over.total.0 ≤ payers.0)) × ((zonal_in z Peak Generation).over.total.0 ≤ payers.0)
    generation_say = totals_say payers _ _ (both generation_fit demand_fit totals_both).0

    demand_say : (((1 ≤ load.0) × (load.0 ≤ 100000000)) × ((zonal_in z YearRound Demand).over.total.0 ≤ load.0)) × ((zonal_in z Peak Demand).over.total.0 ≤ load.0)
    demand_say = totals_say load _ _ (both generation_fit demand_fit totals_both).1

    some_pay : (side : Side) → 1 ≤ by_side payers.0 load.0 side
    some_pay Generation = generation_say.0.0.0
    some_pay Demand = demand_say.0.0.0

    most : (side : Side) → by_side payers.0 load.0 side ≤ 100000000
    most Generation = generation_say.0.0.1
    most Demand = demand_say.0.0.1

    light : (b : Background) (side : Side) → (zonal_in z b side).over.total.0 ≤ by_side payers.0 load.0 side
    light YearRound Generation = generation_say.0.1
    light YearRound Demand = demand_say.0.1
    light Peak Generation = generation_say.1
    light Peak Demand = demand_say.1

    payers_are_lem : payers.0 ≡ sum n (kw_at paying)
    payers_are_lem = let few : (total_of n paying).0 ≤ 100000000 = rw ep at (most Generation) in rw ep (total_is n paying few).1

    pub case_fits : SidesFit s z → n ≤ 256 → n ≤ length local → CaseFits s z payers load n paying local shares
    case_fits g few run = record {
      sides = g;
      few = few;
      run = run;
      some = some_pay;
      most = most;
      light = light;
      payers_are = payers_are_lem;
      shared = (shares_say shares _ payers.0).0 (both (generation_fit && demand_fit) shared_fit h).1;
    }

-- ---- the columns
pub peak_few : (e : Edition) {count own : ℕ} → own ≡ at_peak e count → count ≤ 32 → own ≤ 32
peak_few First e h = omega (arith, e)
peak_few Second e h = omega (arith, e)

module _ (s : Settings) (n : ℕ) (gz : List ℕ) (tec paying paying_at_peak : List Kw) (dz : List ℕ) (demand : List Kw) (wider peak_wider : List ℤ) {z : Backgrounds}
    (ez : z ≡ backgrounds_over s n gz tec paying paying_at_peak dz demand wider peak_wider) (h : settings_fit s ≡ true) where
  held : SettingsFit s
  held = settings_say s h

  all : (b : Background) (side : Side) → AllFit (zonal_in z b side).sums
  all YearRound Generation = rw ez (sums_fit Generation n gz tec paying wider)
  all YearRound Demand = rw ez (sums_fit Demand n dz demand demand wider)
  all Peak Generation = rw ez (sums_fit Generation (at_peak s.edition n) gz tec paying_at_peak peak_wider)
  all Peak Demand = rw ez (sums_fit Demand (at_peak s.edition n) dz demand demand peak_wider)

  few : (b : Background) (side : Side) → (zonal_in z b side).count ≤ 32
  few YearRound Generation = rw ez held.generation_zones
  few YearRound Demand = rw ez held.demand_zones
  few Peak Generation = rw ez (peak_few s.edition refl held.generation_zones)
  few Peak Demand = rw ez (peak_few s.edition refl held.demand_zones)

  over : (b : Background) (side : Side) → (let of = zonal_in z b side in of.over ≡ over_from of.sums of.count)
  over YearRound Generation = rw ez refl
  over YearRound Demand = rw ez refl
  over Peak Generation = rw ez refl
  over Peak Demand = rw ez refl

  peak_count_lem : (side : Side) → (zonal_in z Peak side).count ≡ at_peak s.edition (zonal_in z YearRound side).count
  peak_count_lem Generation = rw ez refl
  peak_count_lem Demand = rw ez refl

  pub sides_fit : SidesFit s z
  sides_fit = record { settings = held; all = all; few = few; over = over; peak_count = peak_count_lem }

  pub over_made : (local : List ℤ) (shares : Shares) {count : ℕ} {r : Figures} → count ≡ nodes_in n (length local) → r ≡ figures_in s z count tec paying demand local shares
      → r ≡ figures_over n s gz tec paying paying_at_peak dz demand wider peak_wider local shares
  unfolding figures_over
  over_made local shares ec er = er ∙ rw (ec, ez, h) refl

pub over_none : (s : Settings) (n : ℕ) (gz : List ℕ) (tec paying paying_at_peak : List Kw) (dz : List ℕ) (demand : List Kw) (wider peak_wider local : List ℤ) (shares : Shares) → settings_fit s ≡ false
    → no_figures ≡ figures_over n s gz tec paying paying_at_peak dz demand wider peak_wider local shares
unfolding figures_over
over_none s n gz tec paying paying_at_peak dz demand wider peak_wider local shares h = rw h refl
