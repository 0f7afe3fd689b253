-- The figures of a case show its sheet, and their counts stay inside their tables and the file.
use Prim.Native.Nat.{ℕ, suc, ◌≤◌, ◌<◌}
use mathlib.Core.Path.{◌≡◌, refl, sym, ap}
use mathlib.Core.Bool.{Bool, true, false}
use mathlib.Core.List.{List}
use native.Mathlib.Omega.{arith}
use lib.ListN.{length}
use Rattle.meaning.specs.declared.Side.{Side}
use Rattle.meaning.specs.declared.Side.TheVariants.{Generation, Demand}
use Rattle.meaning.specs.declared.Section.{Section}
use Rattle.meaning.specs.Name.{unpadded}
use Rattle.meaning.specs.Study.{Node, Runs, node, no_node}
use Rattle.meaning.specs.File.{edition_at, sections, node_at, section, study_of}
use Rattle.meaning.specs.Grid.{Grid, grid_of}
use Rattle.meaning.specs.Figures.{zones, sharing, form_of, zone_figures, local_figures, priced, basis}
use Rattle.meaning.specs.Charging as charging
use Rattle.meaning.specs.Sheet.{side_of, sheet_text, sheet}
use Rattle.meaning.specs.Columns.{no_line, no_local}
use Rattle.meaning.specs.Conditions.{WholeFile, SoundSettings}
use Rattle.meaning.proofs.Columns.{column_at}
use Rattle.meaning.proofs.Frame.{ReadFrom, sections_are, section_inside, counts}
use Rattle.meaning.proofs.Sheets.{SameSide, same_sheet}
use Rattle.meaning.proofs.Whole.{whole_true}
use Rattle.layout.specs.Readable.{section_in}
use Rattle.layout.proofs.Rows.{readable_whole, in_whole, nodes_from}
use Rattle.meaning.specs.Rows.{found}
use Rattle.meaning.specs.Sharing.{in_force, sharing_on}
use Rattle.tariffs.specs.Sides.{form_in, side_figures}
use Rattle.tariffs.specs.Case.{figures_of}
use Rattle.text.specs.SheetText.{side_in, sides_in, name_of, shown_in, Sized}

-- of a grid, with the names in its file
module _ (G : Grid) (runs : Runs) (share : List ℕ) (few : length G.nodes ≤ 256) (most : (side : Side) → zones G side ≤ 32) where
  -- the form that the figures say is the case's
  form_is : (side : Side) → form_in G.settings.edition (found (sharing_on side (sharing G share))) ≡ form_of G share side
  unfolding form_in found sharing_on sharing form_of
  form_is Generation = go (in_force G.settings.edition share) refl
    where
      go : (b : Bool) → in_force G.settings.edition share ≡ b → form_in G.settings.edition (found (sharing G share)) ≡ form_of G share Generation
      go true h = rw h refl
      go false h = rw h refl
  form_is Demand = refl

  same_side : (side : Side) → SameSide (side_in (side_figures (priced G runs share side))) (side_of G runs share side)
  unfolding side_figures charging.priced basis
  same_side side =
      record {
        form = form_is side;
        zones = refl;
        residual = refl;
        remainder = refl;
        zone = λ k h. column_at no_line 32 (λ i. zone_figures G runs share side (suc i)) no_line (zones G side) k h (omega (arith, most side));
      }

  same_sides : (side : Side) → SameSide (sides_in (figures_of (basis G runs) (sharing G share)) side) (side_of G runs share side)
  unfolding figures_of
  same_sides Generation = same_side Generation
  same_sides Demand = same_side Demand

  grid_sheet : (file : List ℕ) (t : Section) → ((v : ℕ) → v < length G.nodes → name_of file t v ≡ unpadded (node G.nodes v).name)
      → sheet_text (shown_in (figures_of (basis G runs) (sharing G share)) file t) ≡ sheet G runs share
  unfolding figures_of sheet basis
  grid_sheet file t named =
      same_sheet _ _ (record {
        edition = refl;
        c = refl;
        peak_c = refl;
        side = same_sides;
        nodes = refl;
        name = named;
        local = λ v h. column_at no_local 256 (local_figures G runs) no_local (length G.nodes) v h (omega arith);
      })

-- of a whole file with sound settings
module _ (file : List ℕ) (runs : Runs) (share : List ℕ) (whole : WholeFile file runs)
    (sound : SoundSettings (length (study_of file).nodes) (study_of file).settings) where
  few : length (study_of file).nodes ≤ 256
  few = omega (arith, (counts file runs whole).0, whole.nodes.most)

  most : (side : Side) → zones (grid_of (study_of file)) side ≤ 32
  unfolding grid_of zones
  most Generation = sound.generation_zones.most
  most Demand = sound.demand_zones.most

  nodes_there : 1 < sections (edition_at file)
  nodes_there = omega (arith, sections_are (edition_at file))

  rows_whole : section_in file 1 ≡ section file 1
  rows_whole = in_whole file 1 nodes_there (whole_true file runs whole)

  from : ReadFrom (node_at file) no_node (section_in file 1) (study_of file).nodes
  from = rw (readable_whole file (whole_true file runs whole)) at (nodes_from file refl)

  -- the names that the writer reads are those of the nodes
  named : (v : ℕ) → v < length (study_of file).nodes → name_of file (section_in file 1) v ≡ unpadded (node (study_of file).nodes v).name
  unfolding name_of node_at
  named v h = sym (ap (λ (n : Node). unpadded n.name) (from.at v (omega (arith, from.count))))

  pub case_sheet : sheet_text (shown_in (figures_of (basis (grid_of (study_of file)) runs) (sharing (grid_of (study_of file)) share)) file (section_in file 1)) ≡ sheet (grid_of (study_of file)) runs share
  unfolding grid_of
  case_sheet = grid_sheet (grid_of (study_of file)) runs share few most file (section_in file 1) named

  pub case_sized : Sized (figures_of (basis (grid_of (study_of file)) runs) (sharing (grid_of (study_of file)) share)) file (section_in file 1)
  unfolding grid_of figures_of side_figures charging.priced basis
  case_sized =
      record { generation = most Generation; demand = most Demand; nodes = few; inside = rw (from.count, rows_whole) (section_inside file runs whole 1 nodes_there) }
