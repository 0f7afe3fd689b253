-- 01, The sheet, of any figures, whether or not a case has them: what is shown of a struct's tables, with the names in a file.
use Rattle.std.specs.Prelude.{Bool, cond, ◌&&◌, List, [], ℕ, ◌≤◌, leb, length, get_or}
use Rattle.meaning.specs.Name.{unpadded}
use Rattle.meaning.specs.File.{name_at, row_at}
use Rattle.meaning.specs.declared.Section.{Section}
use Rattle.meaning.specs.declared.Side.{Side}
use Rattle.meaning.specs.declared.Side.TheVariants.{Generation, Demand}
use Rattle.meaning.specs.declared.SideFigures.{SideFigures}
use Rattle.meaning.specs.declared.LocalFigures.{LocalFigures}
use Rattle.meaning.specs.declared.Figures.{Figures}
use Rattle.meaning.specs.Columns.{no_line, no_local}
use Rattle.meaning.specs.Sheet.{SideShown, Shown, sheet_text}

abbrev pub side_in : SideFigures → SideShown
side_in f = record { form = f.form; zones = f.zones; residual = f.residual.0; remainder = f.remainder; zone = λ k. get_or f.zone k no_line }

abbrev pub sides_in : Figures → Side → SideShown
sides_in f Generation = side_in f.generation
sides_in f Demand = side_in f.demand

-- the name that begins row v of a section
unfoldable pub name_of : (file : List ℕ) → Section → ℕ → List ℕ
name_of file rows v = unpadded (name_at file (row_at rows v))

abbrev pub local_in : List LocalFigures → ℕ → LocalFigures
local_in local v = get_or local v no_local

abbrev pub shown_in : Figures → (file : List ℕ) → Section → Shown
shown_in f file rows =
    record {
      edition = f.edition;
      c = f.c.0;
      peak_c = f.peak_c.0;
      side = sides_in f;
      nodes = f.nodes;
      name = name_of file rows;
      local = local_in f.local;
    }

-- whether the counts stay inside their tables and the file
unfoldable pub sized : Figures → (file : List ℕ) → Section → Bool
sized f file rows =
    leb f.generation.zones 32 && leb f.demand.zones 32 && leb f.nodes 256 && leb (row_at rows f.nodes) (length file)

-- the text of figures, with the names of a file: none of figures whose counts run outside
unfoldable pub text_of : Figures → (file : List ℕ) → Section → List ℕ
text_of f file rows = cond (sized f file rows) (sheet_text (shown_in f file rows)) []

-- what `sized` says
pub record Sized (f : Figures) (file : List ℕ) (rows : Section) : Type 0 where
  pub generation : f.generation.zones ≤ 32
  pub demand : f.demand.zones ≤ 32
  pub nodes : f.nodes ≤ 256
  pub inside : row_at rows f.nodes ≤ length file
