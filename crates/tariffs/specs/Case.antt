-- 01, steps 6 to 10 of a case, from its columns.
use Rattle.std.specs.Prelude.{◌≡◌, Bool, cond, ◌&&◌, List, ℕ, ◌≤◌, leb, ℤ, pos, nat_abs, length}
use Rattle.std.proofs.Math.Option.{Option}
use Rattle.integers.specs.Numbers.{sum}
use Rattle.meaning.specs.declared.Kw.{Kw}
use Rattle.meaning.specs.declared.Metres.{Metres}
use Rattle.meaning.specs.declared.Edition.{Edition}
use Rattle.meaning.specs.declared.Background.{Background}
use Rattle.meaning.specs.declared.Background.TheVariants.{YearRound, Peak}
use Rattle.meaning.specs.declared.Side.{Side}
use Rattle.meaning.specs.declared.Side.TheVariants.{Generation, Demand}
use Rattle.meaning.specs.declared.LocalFigures.{LocalFigures}
use Rattle.meaning.specs.declared.Figures.{Figures}
use Rattle.meaning.specs.declared.Settings.{Settings}
use Rattle.meaning.specs.Editions.{by_edition}
use Rattle.meaning.specs.Rows.{◌between◌and◌}
use Rattle.meaning.specs.Proposal.{potential}
use Rattle.meaning.specs.Columns.{kilowatts, distance, price, kw_at, column, no_local}
use Rattle.meaning.specs.Sharing.{Sharing}
use Rattle.meaning.specs.Charging.{metres, tariff, Basis, C, priced, local_figures}
use Rattle.totals.specs.Totals.{total_of}
use Rattle.steps.specs.Nothing.{no_figures}
use Rattle.rests.specs.declared.Rest.{Rest}
use Rattle.rests.specs.Rests.{less_to}
use Rattle.zones.specs.Sums.{zone_sums, nodes_in}
use Rattle.boundaries.specs.declared.Shares.{Shares}
use Rattle.boundaries.specs.Boundaries.{sharing_in}
use Rattle.tariffs.specs.declared.over.Over.{Over}
use Rattle.tariffs.specs.declared.zonal.Zonal.{Zonal}
use Rattle.tariffs.specs.declared.zonal.Sides.{Sides}
use Rattle.tariffs.specs.declared.zonal.Backgrounds.{Backgrounds}
use Rattle.tariffs.specs.declared.wider.Terms.{Terms}
use Rattle.tariffs.specs.declared.priced.Priced.{Priced}
use Rattle.tariffs.specs.Sides.{zones_in, over_from, zonal_from, side_figures, shares_fit, AllFit, SharesFit}
use Rattle.boundaries.specs.Boundaries.{no_shares}

-- 01, The sheet: the figures of a case as one value, all that is printed but the names; 02, request 6: with what a share file in force says
unfoldable pub figures_of : Basis → Option Sharing → Figures
figures_of B sharing =
    record {
      edition = B.settings.edition;
      c = distance (C B YearRound);
      peak_c = distance (by_edition (pos 0) (C B Peak) B.settings.edition);
      generation = side_figures (priced B sharing Generation);
      demand = side_figures (priced B sharing Demand);
      nodes = B.nodes;
      local = column no_local 256 B.nodes (local_figures B);
    }

-- step 6: local metres; 0 past 01's range, a potential up to 10^16 nm
unfoldable pub local_from : (potential : ℤ) → ℤ
local_from u = cond (leb (nat_abs (metres u)) 10000000) (metres u) (pos 0)

-- step 9: the local line of a node
unfoldable pub node_from : (tec : ℕ) → (potential : ℤ) → (constant factor : ℕ) → LocalFigures
node_from tec u constant factor = record { tec = kilowatts tec; metres = distance (local_from u); tariff = price (tariff (local_from u) constant factor) }

-- the local lines of the nodes, and what their tariffs leave of a rest
unfoldable pub local_of : (n : ℕ) → (tec paying : List Kw) → (local : List ℤ) → (constant factor : ℕ) → Rest → (payers : ℕ) → Priced LocalFigures 256
local_of n tec paying local constant factor rest payers =
    record {
      lines =
          column no_local 256 n
          (λ v. record {
            tec = kilowatts (kw_at tec v);
            metres = distance (local_from (potential local v));
            tariff = price (tariff (local_from (potential local v)) constant factor);
          });
      rest = less_to rest payers (λ v. tariff (local_from (potential local v)) constant factor) (kw_at paying) n;
    }

-- a thing of each side, and of each background
abbrev pub by_side : {A : Type 0} → (generation demand : A) → Side → A
by_side g d Generation = g
by_side g d Demand = d

abbrev pub by_background : {A : Type 0} → (year_round peak : A) → Background → A
by_background y p YearRound = y
by_background y p Peak = p

abbrev pub zonal_in : Backgrounds → Background → Side → Zonal
zonal_in z b = let of = by_background z.year_round z.peak b in by_side of.generation of.demand

-- what steps 8 to 10 ask, of n nodes
unfoldable pub basis_in : Settings → Backgrounds → (payers load : ℕ) → (n : ℕ) → (tec paying : List Kw) → (local : List ℤ) → Basis
basis_in s z payers load n tec paying local =
    record {
      settings = s;
      side = λ b side. let of = zonal_in z b side in zones_in of.sums of.count;
      payers = by_side payers load;
      nodes = n;
      tec = kw_at tec;
      paying = kw_at paying;
      local = λ v. local_from (potential local v);
    }

-- what is shared of a side: generation's alone
abbrev pub shares_on : Side → Shares → Shares
shares_on side shares = by_side shares no_shares side

abbrev pub terms_of : Settings → Side → (c : Metres) → Terms
terms_of s side c = record { side = side; c = c; constant = s.constant; factor = s.wider_factor }

-- 01, Quantities: up to 32 zones a side, p up to 1,000, constant 10,000, factors 5,000, revenue 10^10
unfoldable pub settings_fit : Settings → Bool
settings_fit s =
    leb s.generation_zones 32 && leb s.demand_zones 32 && leb s.p 1000 && leb s.constant 10000 && leb s.wider_factor 5000
    && leb s.local_factor 5000
    && leb s.revenue 10000000000

-- the kilowatts that pay on a side, 1 to 10^8; and those in its zones are some of them, in each background
unfoldable pub totals_fit : (payers : Kw) → (year_round peak : Over) → Bool
totals_fit payers y p = payers.0 between 1 and 100000000 && leb y.total.0 payers.0 && leb p.total.0 payers.0

-- no figures where a total is out of range
unfoldable pub figures_in : Settings → Backgrounds → (n : ℕ) → (tec paying demand : List Kw) → (local : List ℤ) → Shares → Figures
figures_in s z n tec paying demand local shares =
    let payers = total_of n paying in
    let load = total_of n demand in
    let of = zonal_in z YearRound in
    let at_peak = zonal_in z Peak in
    let zones = (of Generation).count in
    cond (totals_fit payers (of Generation).over (at_peak Generation).over && totals_fit load (of Demand).over (at_peak Demand).over && shares_fit shares zones payers.0)
    (figures_of (basis_in s z payers.0 load.0 n tec paying local) (sharing_in shares zones)) no_figures

-- step 7 of a background, "generation weighted by TEC, demand by demand"
abbrev pub sides_over : (generation_zones demand_zones n : ℕ) → (generation_zone : List ℕ) (tec paying : List Kw) (demand_zone : List ℕ) (demand : List Kw) (wider : List ℤ) → Sides
sides_over g d n generation_zone tec paying demand_zone demand wider =
    record { generation = zonal_from (zone_sums Generation n generation_zone tec paying wider) g; demand = zonal_from (zone_sums Demand n demand_zone demand demand wider) d }

-- how many nodes or zones peak has: none in edition 1
abbrev pub at_peak : Edition → (count : ℕ) → ℕ
at_peak e count = by_edition 0 count e

abbrev pub backgrounds_over : Settings → (n : ℕ) → (generation_zone : List ℕ) (tec paying paying_at_peak : List Kw) (demand_zone : List ℕ) (demand : List Kw) (wider peak_wider : List ℤ) → Backgrounds
backgrounds_over s n generation_zone tec paying paying_at_peak demand_zone demand wider peak_wider =
    let g = s.generation_zones in
    let d = s.demand_zones in
    let e = s.edition in
    record {
      year_round = sides_over g d n generation_zone tec paying demand_zone demand wider;
      peak = sides_over (at_peak e g) (at_peak e d) (at_peak e n) generation_zone tec paying_at_peak demand_zone demand peak_wider;
    }

-- no figures where a setting is out of range
unfoldable pub figures_over : (n : ℕ) → Settings → (generation_zone : List ℕ) (tec paying paying_at_peak : List Kw) (demand_zone : List ℕ) (demand : List Kw) (wider peak_wider local : List ℤ) → Shares → Figures
figures_over n s generation_zone tec paying paying_at_peak demand_zone demand wider peak_wider local shares =
    cond (settings_fit s)
    (figures_in s (backgrounds_over s n generation_zone tec paying paying_at_peak demand_zone demand wider peak_wider) (nodes_in n (length local)) tec paying demand local shares)
    no_figures

-- ---- no step of it wraps
pub record SettingsFit (s : Settings) : Type 0 where
  pub generation_zones : s.generation_zones ≤ 32
  pub demand_zones : s.demand_zones ≤ 32
  pub p : s.p ≤ 1000
  pub constant : s.constant ≤ 10000
  pub wider_factor : s.wider_factor ≤ 5000
  pub local_factor : s.local_factor ≤ 5000
  pub revenue : s.revenue ≤ 10000000000

pub record NodesFit (n : ℕ) (local : List ℤ) (k f : ℕ) : Type 0 where
  pub few : n ≤ 256
  pub run : n ≤ length local
  pub constant : k ≤ 10000
  pub factor : f ≤ 5000

-- the zones of both sides in both backgrounds, as they were added up
pub record SidesFit (s : Settings) (z : Backgrounds) : Type 0 where
  pub settings : SettingsFit s
  pub all : (b : Background) (side : Side) → AllFit (zonal_in z b side).sums
  pub few : (b : Background) (side : Side) → (zonal_in z b side).count ≤ 32
  pub over : (b : Background) (side : Side) → (let of = zonal_in z b side in of.over ≡ over_from of.sums of.count)
  pub peak_count : (side : Side) → (zonal_in z Peak side).count ≡ at_peak s.edition (zonal_in z YearRound side).count

-- and the kilowatts that pay
pub record CaseFits (s : Settings) (z : Backgrounds) (payers load : Kw) (n : ℕ) (paying : List Kw) (local : List ℤ) (shares : Shares) : Type 0 where
  pub sides : SidesFit s z
  pub few : n ≤ 256
  pub run : n ≤ length local
  pub some : (side : Side) → 1 ≤ by_side payers.0 load.0 side
  pub most : (side : Side) → by_side payers.0 load.0 side ≤ 100000000
  pub light : (b : Background) (side : Side) → (zonal_in z b side).over.total.0 ≤ by_side payers.0 load.0 side
  pub payers_are : payers.0 ≡ sum n (kw_at paying)
  pub shared : SharesFit shares (zonal_in z YearRound Generation).count payers.0
