-- 01, steps 7 to 10 of a side, from the sums of its zones as an array has them; and 02, request 6, from what a share file says as arrays have it.
use Rattle.std.specs.Prelude.{◌≡◌, Bool, false, cond, List, ℕ, zero, suc, ◌+◌, ◌*◌, ◌≤◌, ◌<◌, leb, ℤ, pos, nat_abs, ◌+ℤ◌, ◌*ℤ◌, get_or, replicate}
use Rattle.integers.specs.Numbers.{sum}
use Rattle.meaning.specs.declared.Edition.{Edition}
use Rattle.meaning.specs.declared.Background.TheVariants.{YearRound}
use Rattle.meaning.specs.declared.Kw.{Kw}
use Rattle.meaning.specs.declared.Metres.{Metres}
use Rattle.meaning.specs.declared.MicroPerKw.{MicroPerKw}
use Rattle.meaning.specs.declared.WiderFigures.{WiderFigures}
use Rattle.meaning.specs.declared.SharedFigures.{SharedFigures}
use Rattle.meaning.specs.declared.ZoneFigures.{ZoneFigures}
use Rattle.meaning.specs.declared.SideFigures.{SideFigures}
use Rattle.meaning.specs.declared.Form.{Form}
use Rattle.meaning.specs.declared.Form.TheVariants.{OneBackground, TwoBackgrounds, Sharing}
use Rattle.meaning.specs.Editions.{by_edition}
use Rattle.meaning.specs.Rows.{found, all}
use Rattle.meaning.specs.Columns.{kilowatts, distance, price, kw_at, metres_at, column, no_line}
use Rattle.meaning.specs.Charging.{average_of, with_c, tariff, wider_of, no_wider, shared_by, no_shared, metres_times_kw, Zones, Priced, residual, remainder, zone_figures}
use Rattle.rests.specs.declared.Rest.{Rest}
use Rattle.rests.specs.Rests.{less_to, Holds}
use Rattle.zones.specs.declared.ZoneSums.{ZoneSums}
use Rattle.zones.specs.Sums.{no_sums, SumsFit}
use Rattle.boundaries.specs.declared.Shares.{Shares}
use Rattle.boundaries.specs.declared.Split.{Split}
use Rattle.boundaries.specs.Boundaries.{splits}
use Rattle.tariffs.specs.declared.over.Over.{Over}
use Rattle.tariffs.specs.declared.zonal.Zonal.{Zonal}
use Rattle.tariffs.specs.declared.wider.Terms.{Terms}
use Rattle.tariffs.specs.declared.priced.Priced.{Priced as PricedLines}

-- step 7: a zone's metres
unfoldable pub metres_from : ZoneSums → ℤ
metres_from z = average_of z.weighed z.weight.0

-- row k of the array is zone k + 1; a zone that has no row has no nodes
abbrev pub sums_in : List ZoneSums → (k : ℕ) → ZoneSums
sums_in sums k = get_or sums k no_sums

abbrev pub sums_of : List ZoneSums → (zone : ℕ) → ZoneSums
sums_of sums zero = no_sums
sums_of sums (suc k) = sums_in sums k

-- the kilowatts that pay in zone k + 1
abbrev pub pays_in : List ZoneSums → (k : ℕ) → ℕ
pays_in sums k = (sums_in sums k).paying.0

-- zones 1 to count
abbrev pub zones_in : List ZoneSums → (count : ℕ) → Zones
zones_in sums count =
    record {
      count = count;
      weight = λ zone. (sums_of sums zone).weight.0;
      paying = λ zone. (sums_of sums zone).paying.0;
      metres = λ zone. metres_from (sums_of sums zone);
      total = sum count (pays_in sums);
    }

-- step 8: metres times the kilowatts that pay, and those kilowatts, over the zones passed
unfoldable pub over_from : List ZoneSums → (count : ℕ) → Over
over_from sums count = record { metres = metres_times_kw (zones_in sums count); total = kilowatts (zones_in sums count).total }

unfoldable pub with_zone : Over → ZoneSums → Over
with_zone o z = record { metres = o.metres +ℤ metres_from z *ℤ pos z.paying.0; total = kilowatts (o.total.0 + z.paying.0) }

abbrev pub zonal_from : List ZoneSums → (count : ℕ) → Zonal
zonal_from sums count = record { count = count; sums = sums; over = over_from sums count }

-- ---- metres that tariffs are of
-- zonal metres of zones 1 to 32: a chain may pass a zone past the last
unfoldable pub metres_over : List ZoneSums → List Metres
metres_over sums = column (distance (pos 0)) 32 32 (λ k. distance (metres_from (sums_in sums k)))

-- 02, request 6: they split "into shared and not shared"; and the metres that are not shared
abbrev pub no_parts : Split
no_parts = record { shared = distance (pos 0); not_shared = distance (pos 0) }

abbrev pub parts_in : List Split → (k : ℕ) → Split
parts_in parts k = get_or parts k no_parts

unfoldable pub not_shared_over : List Split → List Metres
not_shared_over parts = column (distance (pos 0)) 32 32 (λ k. (parts_in parts k).not_shared)

-- how many zones have a shared tariff: none where no file is in force
unfoldable pub shared_zones : (in_force : Bool) → (count : ℕ) → ℕ
shared_zones in_force count = cond in_force count 0

-- whether the kilowatts of each zone's shared tariff are some of those that pay
unfoldable pub shares_fit : Shares → (count payers : ℕ) → Bool
shares_fit shares count payers = all (λ k. leb (kw_at shares.kw k) payers) (shared_zones shares.in_force count)

-- ---- steps 8 to 10 of metres
-- step 9: the tariff of metres with C
unfoldable pub tariff_from : Terms → (metres : ℤ) → ℤ
tariff_from t m = tariff (with_c t.side t.c.0 m) t.constant t.factor

-- what a background says of a zone; and of zones 1 to count, with what their tariffs leave of a rest
unfoldable pub wider_from : Terms → (metres : ℤ) → WiderFigures
wider_from t m = wider_of m (with_c t.side t.c.0 m) (tariff_from t m)

unfoldable pub wider_over : List Metres → List ZoneSums → (count : ℕ) → Terms → Rest → (payers : ℕ) → PricedLines WiderFigures 32
wider_over metres sums count t rest payers =
    record {
      lines = column no_wider 32 count (λ k. wider_from t (metres_at metres k));
      rest = less_to rest payers (λ k. tariff_from t (metres_at metres k)) (pays_in sums) count;
    }

abbrev pub wider_at : List WiderFigures → (k : ℕ) → WiderFigures
wider_at lines k = get_or lines k no_wider

-- 02, request 6: "shared metres and tariff", without C
unfoldable pub shared_tariff_from : Terms → (metres : ℤ) → ℤ
shared_tariff_from t m = tariff m t.constant t.factor

unfoldable pub shared_from : Terms → (metres : ℤ) → SharedFigures
shared_from t m = shared_by m (shared_tariff_from t m)

unfoldable pub shared_over : List Split → (kw : List Kw) → (count : ℕ) → Terms → Rest → (payers : ℕ) → PricedLines SharedFigures 32
shared_over parts kw count t rest payers =
    record {
      lines = column no_shared 32 count (λ k. shared_from t (parts_in parts k).shared.0);
      rest = less_to rest payers (λ k. shared_tariff_from t (parts_in parts k).shared.0) (kw_at kw) count;
    }

abbrev pub shared_at : List SharedFigures → (k : ℕ) → SharedFigures
shared_at lines k = get_or lines k no_shared

-- step 10: its line, by what both backgrounds say and what is shared; 02, request 6: "the total leaves the shared tariff out"
unfoldable pub line_from : (weight : Kw) → (year_round peak : WiderFigures) → SharedFigures → (residual : MicroPerKw) → ZoneFigures
line_from weight y p s residual =
    record { weight = weight; year_round = y; peak = p; shared = s; total = price (y.tariff.0 +ℤ p.tariff.0 +ℤ residual.0) }

-- the form of a side's lines: "with shared metres and tariff" where a file is in force
unfoldable pub form_in : Edition → (in_force : Bool) → Form
form_in e in_force = cond in_force Sharing (by_edition OneBackground TwoBackgrounds e)

-- the side, from a rest that has its local tariffs taken off
unfoldable pub side_from : Edition → Shares → (year_round peak : Zonal) → (terms peak_terms : Terms) → Rest → (payers : ℕ) → SideFigures
side_from e shares y p t u rest payers =
    let parts = splits shares y.count (metres_over y.sums) in
    let a = wider_over (not_shared_over parts) y.sums y.count t rest payers in
    let b = wider_over (metres_over p.sums) p.sums p.count u a.rest payers in
    let s = shared_over parts shares.kw (shared_zones shares.in_force y.count) t b.rest payers in
    let r = price s.rest.each in
    record {
      form = form_in e shares.in_force;
      zones = y.count;
      residual = r;
      remainder = pos s.rest.over;
      zone = column no_line 32 y.count (λ k. line_from (sums_in y.sums k).weight (wider_at a.lines k) (wider_at b.lines k) (shared_at s.lines k) r);
    }

-- 01, The sheet: a side's figures as one value, of zones 1, 2, .. in order and with nothing past their number
unfoldable pub side_figures : Priced → SideFigures
side_figures S =
    record {
      form = form_in S.edition (found S.sharing);
      zones = (S.zones YearRound).count;
      residual = price (residual S);
      remainder = remainder S;
      zone = column no_line 32 (S.zones YearRound).count (λ k. zone_figures S (suc k));
    }

-- ---- no step of it wraps
-- what nodes in range come to; up to 32 zones of those, and none past them; and kilowatts up to 10^8 in all
pub record AllFit (sums : List ZoneSums) : Type 0 where
  pub each : (k : ℕ) → k < 32 → SumsFit (sums_in sums k)
  pub past : (k : ℕ) → 32 ≤ k → sums_in sums k ≡ no_sums

pub record OverFits (o : Over) : Type 0 where
  pub metres : nat_abs o.metres ≤ 10000000 * o.total.0
  pub total : o.total.0 ≤ 800000000000

pub record Ready (o : Over) : Type 0 where
  pub metres : nat_abs o.metres ≤ 10000000 * o.total.0
  pub total : o.total.0 ≤ 100000000

-- 01, Quantities: a distance up to 10^7 m, and C as much; constant up to 10,000, factor up to 5,000.
-- 02, request 6: of not-shared metres, up to 2 x 10^7 m for each of 32 boundaries and the centre's 10^7 m besides
pub record Prices (m : ℤ) (k f : ℕ) : Type 0 where
  pub near : nat_abs m ≤ 660000000
  pub constant : k ≤ 10000
  pub factor : f ≤ 5000

pub record MetresFit (metres : List Metres) : Type 0 where
  pub each : (k : ℕ) → k < 32 → nat_abs (metres_at metres k) ≤ 650000000

pub record PartsFit (parts : List Split) : Type 0 where
  pub shared : (k : ℕ) → k < 32 → nat_abs (parts_in parts k).shared.0 ≤ 650000000
  pub not_shared : (k : ℕ) → k < 32 → nat_abs (parts_in parts k).not_shared.0 ≤ 650000000

pub record TermsFit (t : Terms) : Type 0 where
  pub near : nat_abs t.c.0 ≤ 10000000
  pub constant : t.constant ≤ 10000
  pub factor : t.factor ≤ 5000

pub record LinesFit (lines : List WiderFigures) : Type 0 where
  pub each : (k : ℕ) → k < 32 → nat_abs (wider_at lines k).tariff.0 ≤ 330000000000

-- the zones of a side in a background hold some of the kilowatts that pay
pub record ZonalFits (z : Zonal) (payers : ℕ) : Type 0 where
  pub all : AllFit z.sums
  pub few : z.count ≤ 32
  pub light : sum z.count (pays_in z.sums) ≤ payers

-- and so do the kilowatts of the shared tariff
pub record SharesFit (shares : Shares) (count payers : ℕ) : Type 0 where
  pub each : (k : ℕ) → k < shared_zones shares.in_force count → kw_at shares.kw k ≤ payers

pub record SideFits (shares : Shares) (y p : Zonal) (t u : Terms) (rest : Rest) (payers : ℕ) : Type 0 where
  pub year_round : ZonalFits y payers
  pub peak : ZonalFits p payers
  pub shared : SharesFit shares y.count payers
  pub terms : TermsFit t
  pub peak_terms : TermsFit u
  pub value : ℤ
  pub holds : Holds rest value payers 96
