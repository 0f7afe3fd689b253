-- 01, The sheet: the fields of each line, and the sheet as bytes.
use Rattle.std.specs.Prelude.{cond, List, [], ◌∷◌, ◌++◌, ℕ, suc, eqb, ℤ, pos, length}
use Rattle.meaning.specs.Rows.{joined}
use Rattle.meaning.specs.Text.{text, natural, decimals, line}
use Rattle.meaning.specs.Name.{unpadded}
use Rattle.meaning.specs.Study.{Metres, MicroPerKw, Runs, node}
use Rattle.meaning.specs.Grid.{Grid}
use Rattle.meaning.specs.declared.Edition.{Edition}
use Rattle.meaning.specs.declared.Edition.TheVariants.{First, Second}
use Rattle.meaning.specs.declared.Background.TheVariants.{YearRound, Peak}
use Rattle.meaning.specs.declared.Form.{Form}
use Rattle.meaning.specs.declared.Form.TheVariants.{OneBackground, TwoBackgrounds, Sharing}
use Rattle.meaning.specs.declared.Side.{Side}
use Rattle.meaning.specs.declared.Side.TheVariants.{Generation, Demand}
use Rattle.meaning.specs.declared.WiderFigures.{WiderFigures}
use Rattle.meaning.specs.declared.ZoneFigures.{ZoneFigures}
use Rattle.meaning.specs.Editions.{by_edition}
use Rattle.meaning.specs.declared.LocalFigures.{LocalFigures}
use Rattle.meaning.specs.Figures.{zones, form_of, C, residual, remainder, zone_figures, local_figures}

-- "`C` and C."; 02, request 5: "the `C` line prints peak's C before year round's"
abbrev pub constant_numbers : Edition → (c peak_c : Metres) → List ℤ
constant_numbers First c peak_c = c ∷ []
constant_numbers Second c peak_c = peak_c ∷ c ∷ []

unfoldable pub constant_fields : Edition → (c peak_c : Metres) → List (List ℕ)
constant_fields e c peak_c = text "C" ∷ decimals (constant_numbers e c peak_c)

-- `G` and `D`
unfoldable pub letter : Side → List ℕ
letter Generation = text "G"
letter Demand = text "D"

-- "zonal metres, metres after C, tariff", and then "residual, total"
abbrev pub wider_then : WiderFigures → List ℤ → List ℤ
wider_then w after = w.metres.0 ∷ w.after_c.0 ∷ w.tariff.0 ∷ after

-- 02, request 5: "`G` and `D` lines peak's metres, metres after C and tariff before year round's"; request 6: "with shared metres and tariff after them"
unfoldable pub zone_numbers : Form → (residual : MicroPerKw) → ZoneFigures → List ℤ
zone_numbers OneBackground residual z = wider_then z.year_round (residual ∷ z.total.0 ∷ [])
zone_numbers TwoBackgrounds residual z = wider_then z.peak (wider_then z.year_round (residual ∷ z.total.0 ∷ []))
zone_numbers Sharing residual z = wider_then z.peak (wider_then z.year_round (z.shared.metres.0 ∷ z.shared.tariff.0 ∷ residual ∷ z.total.0 ∷ []))

-- "`G`, zone" and these. "`D`, the same for demand." "A zone with no kilowatts prints its letter, number and `-`."
unfoldable pub zone_fields : Form → Side → (zone : ℕ) → (residual : MicroPerKw) → ZoneFigures → List (List ℕ)
zone_fields form side zone residual z =
    letter side ∷ natural zone ∷ cond (eqb z.weight.0 0) (text "-" ∷ []) (decimals (zone_numbers form residual z))

-- "`L`, node name without padding, local metres, local tariff, for nodes with TEC above zero"
unfoldable pub node_fields : (name : List ℕ) → LocalFigures → List (List ℕ)
node_fields name l = text "L" ∷ name ∷ decimals (l.metres.0 ∷ l.tariff.0 ∷ [])

unfoldable pub node_line : (name : List ℕ) → LocalFigures → List ℕ
node_line name l = cond (eqb l.tec.0 0) [] (line (node_fields name l))

-- "`R`, generation remainder, demand remainder."
unfoldable pub remainder_fields : (generation demand : ℤ) → List (List ℕ)
remainder_fields generation demand = text "R" ∷ decimals (generation ∷ demand ∷ [])

-- what a sheet prints of a side, zone k + 1 in row k, and in all
pub record SideShown : Type 0 where
  pub form : Form
  pub zones : ℕ
  pub residual : MicroPerKw
  pub remainder : ℤ
  pub zone : ℕ → ZoneFigures

pub record Shown : Type 0 where
  pub edition : Edition
  pub c : Metres
  pub peak_c : Metres
  pub side : Side → SideShown
  pub nodes : ℕ
  pub name : ℕ → List ℕ
  pub local : ℕ → LocalFigures

abbrev pub zone_row : Side → SideShown → ℕ → List (List ℕ)
zone_row side s k = zone_fields s.form side (suc k) s.residual (s.zone k)

-- "Zones stand in rising order."
unfoldable pub zone_lines : Side → SideShown → List ℕ
zone_lines side s = joined s.zones (λ k. line (zone_row side s k))

-- "in table order"
unfoldable pub node_lines : (nodes : ℕ) → (name : ℕ → List ℕ) → (local : ℕ → LocalFigures) → List ℕ
node_lines nodes name local = joined nodes (λ v. node_line (name v) (local v))

-- `C`; `G` lines; `D` lines; `L` lines; `R`
unfoldable pub sheet_text : Shown → List ℕ
sheet_text s =
    line (constant_fields s.edition s.c s.peak_c)
    ++ (zone_lines Generation (s.side Generation)
    ++ (zone_lines Demand (s.side Demand)
    ++ (node_lines s.nodes s.name s.local
    ++ line (remainder_fields (s.side Generation).remainder (s.side Demand).remainder))))

-- ---- of a case
module _ (G : Grid) (runs : Runs) (share : List ℕ) where
  abbrev pub side_of : Side → SideShown
  side_of side =
      record {
        form = form_of G share side;
        zones = zones G side;
        residual = residual G runs share side;
        remainder = remainder G runs share side;
        zone = λ k. zone_figures G runs share side (suc k);
      }

  abbrev pub shown_of : Shown
  shown_of =
      record {
        edition = G.settings.edition;
        c = C G runs YearRound;
        peak_c = by_edition (pos 0) (C G runs Peak) G.settings.edition;
        side = side_of;
        nodes = length G.nodes;
        name = λ v. unpadded (node G.nodes v).name;
        local = local_figures G runs;
      }

  unfoldable pub sheet : List ℕ
  sheet = sheet_text shown_of
