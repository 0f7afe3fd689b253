-- The columns of a grid: what steps 8 to 10 ask of them is what they ask of the grid, so the figures are the same.
use mathlib.Core.Path.{◌≡◌, refl, ◌∙◌, ap, ap₂}
use mathlib.Core.Bool.{true}
use mathlib.Core.List.{List}
use mathlib.Core.Option.{Option}
use Prim.Native.Nat.{ℕ, suc, ◌≤◌, ◌<◌}
use native.Mathlib.Omega.{arith}
use borrow.Author.Tests.{le-leb}
use lib.ListN.{length}
use Rattle.integers.specs.Numbers.{sum}
use Rattle.integers.proofs.Sum.{sum_same, sum-zero}
use Rattle.meaning.specs.declared.Edition.{Edition}
use Rattle.meaning.specs.declared.Edition.TheVariants.{First, Second}
use Rattle.meaning.specs.declared.Background.{Background}
use Rattle.meaning.specs.declared.Background.TheVariants.{YearRound, Peak}
use Rattle.meaning.specs.declared.System.TheVariants.{Wider, Local}
use Rattle.meaning.specs.declared.Kw.{Kw}
use Rattle.meaning.specs.declared.Side.{Side}
use Rattle.meaning.specs.declared.Side.TheVariants.{Generation, Demand}
use Rattle.meaning.specs.declared.Settings.{Settings}
use Rattle.meaning.specs.Editions.{Of}
use Rattle.meaning.specs.Study.{Runs}
use Rattle.meaning.specs.Grid.{Grid}
use Rattle.meaning.specs.Grid as grid
use Rattle.meaning.specs.Rows.{◌between◌and◌, found}
use Rattle.meaning.specs.Columns.{kw_at, price, column, no_line, no_local}
use Rattle.meaning.specs.Proposal.{potential}
use Rattle.meaning.specs.Charging.{Basis, Priced, Zones, local_figures, zone_figures, residual, remainder}
use Rattle.meaning.specs.Sharing.{Sharing}
use Rattle.meaning.specs.Figures.{zones, weight, paying, paying_in, total_paying, sharing, local_metres, basis}
use Rattle.meaning.proofs.Bases.{Alike, AlikePriced, C-same, priced_same, line_same, residual_alike, remainder_alike, zone_alike}
use Rattle.meaning.proofs.Sides.{of_peak}
use Rattle.meaning.proofs.Columns.{column_same}
use Rattle.meaning.proofs.Says.{says_le, says_all, ◌also◌}
use Rattle.totals.specs.Totals.{total_of}
use Rattle.totals.proofs.TotalLaws.{added_up}
use Rattle.zones.proofs.Laws.{reached_all}
use Rattle.boundaries.specs.declared.Shares.{Shares}
use Rattle.boundaries.specs.Boundaries.{sharing_in}
use Rattle.tariffs.specs.declared.zonal.Backgrounds.{Backgrounds}
use Rattle.tariffs.specs.Sides.{pays_in, over_from, shared_zones, shares_fit, form_in, side_figures}
use Rattle.tariffs.specs.Case.{local_from, by_side, by_background, zonal_in, basis_in, figures_of, settings_fit, totals_fit, figures_in, backgrounds_over, at_peak, figures_over}
use Rattle.charges.proofs.OfSide.{SideOf, GridFits, zones_are}

-- ---- bases that are alike
side_same : {S S' : Priced} → AlikePriced S S' → side_figures S ≡ side_figures S'
unfolding side_figures
side_same {S = S} {S' = S'} a =
    rw (residual_alike a, remainder_alike a, column_same no_line 32 (S.zones YearRound).count (λ k. zone_figures S (suc k)) (λ k. zone_figures S' (suc k)) (λ k h. zone_alike a (suc k)), a.zones YearRound tt)
    (ap₂ (λ (e : Edition) (s : Option Sharing). record {
      form = form_in e (found s);
      zones = (S'.zones YearRound).count;
      residual = price (residual S');
      remainder = remainder S';
      zone = column no_line 32 (S'.zones YearRound).count (λ k. zone_figures S' (suc k));
    }) a.edition a.sharing)

figures_same : {B B' : Basis} {s t : Option Sharing} → Alike B B' → s ≡ t → figures_of B s ≡ figures_of B' t
unfolding figures_of
figures_same {B = B} {B' = B'} a same =
    rw (
      C-same a YearRound tt,
      of_peak _ (ap (λ (s : Settings). s.edition) a.settings) (C-same a Peak),
      side_same (priced_same a same Generation),
      side_same (priced_same a same Demand),
      column_same no_local 256 B.nodes (local_figures B) (local_figures B') (line_same a),
      a.nodes,
      a.settings,
    ) refl

-- ---- peak, where an edition has it and where it has not
has_all : (e : Edition) → Of Peak e → (count : ℕ) → at_peak e count ≡ count
has_all First h count = absurd h
has_all Second h count = refl

peak_most : (e : Edition) (count : ℕ) (kw : ℕ → ℕ) {most : ℕ} → (Of Peak e → sum (at_peak e count) kw ≤ most) → sum (at_peak e count) kw ≤ most
peak_most First count kw h = rw (sum-zero kw) (omega arith)
peak_most Second count kw h = h tt

-- ---- the columns of a grid
pub record ColumnsOf (G : Grid) (n : ℕ) (gz : List ℕ) (tec payers at_peak : List Kw) (dz : List ℕ) (demand : List Kw) : Type 0 where
  pub generation : (b : Background) → Of b G.settings.edition → SideOf G b Generation n gz tec (by_background payers at_peak b)
  pub demanded : (b : Background) → SideOf G b Demand n dz demand demand

module _ (G : Grid) (runs : Runs) (f : GridFits G runs) (n : ℕ) (gz : List ℕ) (tec payers payers_at_peak : List Kw) (dz : List ℕ) (demand : List Kw)
    (o : ColumnsOf G n gz tec payers payers_at_peak dz demand) (share : List ℕ) (shares : Shares) (told : sharing_in shares G.settings.generation_zones ≡ sharing G share)
    (light-kw : (k : ℕ) → k < shared_zones shares.in_force G.settings.generation_zones → kw_at shares.kw k ≤ total_paying G Generation) where
  abbrev s : Settings
  s = G.settings

  abbrev og : SideOf G YearRound Generation n gz tec payers
  og = o.generation YearRound tt

  abbrev z : Backgrounds
  z = backgrounds_over s n gz tec payers payers_at_peak dz demand (runs (Wider YearRound)) (runs (Wider Peak))

  few : n ≤ 256
  few = omega (arith, og.nodes, f.few)

  -- the kilowatts that pay, and their sums
  pays : (side : Side) (v : ℕ) → v < n → kw_at (by_side payers demand side) v ≡ paying G side v
  unfolding paying paying_in grid.pays_in
  pays Generation = og.paid
  pays Demand = (o.demanded YearRound).paid

  payers_are_lem : (side : Side) → sum n (kw_at (by_side payers demand side)) ≡ total_paying G side
  unfolding total_paying
  payers_are_lem side = sum_same n _ _ (pays side) ∙ ap (λ (m : ℕ). sum m (paying G side)) og.nodes

  total_is : (side : Side) → (total_of n (by_side payers demand side)).0 ≡ total_paying G side
  total_is side = let e = payers_are_lem side in rw (← added_up n (by_side payers demand side) few (rw e (f.kilowatts_fit.all side).most)) e

  abbrev B : Basis
  B = basis_in s z (total_of n payers).0 (total_of n demand).0 n tec payers (runs Local)

  -- the local metres of a node are in their range
  local_is : (v : ℕ) → v < n → local_from (potential (runs Local) v) ≡ local_metres runs v
  unfolding local_from local_metres
  local_is v h = rw (le-leb _ _ (f.locals.node v (omega (arith, og.nodes)))) refl

  sides : (b : Background) → Of b s.edition → (side : Side) → B.side b side ≡ (basis G runs).side b side
  unfolding basis_in zones
  sides YearRound h Generation = zones_are G runs f YearRound h Generation n gz tec payers og
  sides YearRound h Demand = zones_are G runs f YearRound h Demand n dz demand demand (o.demanded YearRound)
  sides Peak h Generation = rw (has_all s.edition h n, has_all s.edition h s.generation_zones) (zones_are G runs f Peak h Generation n gz tec payers_at_peak (o.generation Peak h))
  sides Peak h Demand = rw (has_all s.edition h n, has_all s.edition h s.demand_zones) (zones_are G runs f Peak h Demand n dz demand demand (o.demanded Peak))

  payers_alike : (side : Side) → B.payers side ≡ total_paying G side
  unfolding basis_in
  payers_alike Generation = total_is Generation
  payers_alike Demand = total_is Demand

  alike : Alike B (basis G runs)
  unfolding basis_in basis weight paying
  alike = record { settings = refl; side = sides; payers = payers_alike; nodes = og.nodes; tec = og.weighs; paying = pays Generation; local = local_is }

  -- settings and totals are in theirs
  settings_fit_lem : settings_fit s ≡ true
  unfolding settings_fit zones
  settings_fit_lem =
      let r = f.ranged in
      (says_le also says_le also says_le also says_le also says_le also says_le also says_le).1
      ((((((r.zones_most Generation, r.zones_most Demand), r.p), r.constant), r.wider_factor), r.local_factor), r.revenue)

  -- what pays in the zones is some of what pays
  in_zones : (b : Background) → Of b s.edition → (side : Side) → (let of = zonal_in z b side in sum of.count (pays_in of.sums) ≤ total_paying G side)
  unfolding basis_in basis
  in_zones b h side = let e = ap (λ (x : Zones). x.total) (sides b h side) in rw e (f.kilowatts_fit.in_all b side)

  light : (b : Background) (side : Side) → (zonal_in z b side).over.total.0 ≤ total_paying G side
  unfolding over_from
  light YearRound Generation = in_zones YearRound tt Generation
  light YearRound Demand = in_zones YearRound tt Demand
  light Peak Generation = peak_most s.edition s.generation_zones _ (λ h. in_zones Peak h Generation)
  light Peak Demand = peak_most s.edition s.demand_zones _ (λ h. in_zones Peak h Demand)

  totals_fit_lem : (side : Side) → totals_fit (total_of n (by_side payers demand side)) (zonal_in z YearRound side).over (zonal_in z Peak side).over ≡ true
  unfolding totals_fit ◌between◌and◌
  totals_fit_lem side =
      let a = f.kilowatts_fit.all side in
      rw (total_is side) (((says_le also says_le) also says_le also says_le).1 (((a.least, a.most), light YearRound side), light Peak side))

  -- what pays a shared tariff is some of what pays
  shares_fit_lem : shares_fit shares s.generation_zones (total_of n payers).0 ≡ true
  unfolding shares_fit
  shares_fit_lem = (says_all (shared_zones shares.in_force s.generation_zones) (λ k. says_le {m = kw_at shares.kw k} {n = (total_of n payers).0})).1 (λ k h. rw (total_is Generation) (light-kw k h))

  pub case_is : figures_over n s gz tec payers payers_at_peak dz demand (runs (Wider YearRound)) (runs (Wider Peak)) (runs Local) shares ≡ figures_of (basis G runs) (sharing G share)
  unfolding figures_over figures_in
  case_is =
      rw (settings_fit_lem, reached_all n (length (runs Local)) few (omega (arith, og.nodes, f.long Local tt)), totals_fit_lem Generation, totals_fit_lem Demand, shares_fit_lem)
      (figures_same alike told)
