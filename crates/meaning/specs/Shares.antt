-- 02, request 6: "Sharing across boundaries." The demands are stated once, with and without a share file; what is promised of sharing besides, as statements over the definitions.
use Rattle.std.specs.Prelude.{◌≡◌, true, false, List, [], ℕ, ◌≤◌, ℤ, pos, ◌+ℤ◌, take, ◌≤ℤ◌}
use Rattle.meaning.specs.declared.Background.TheVariants.{YearRound}
use Rattle.meaning.specs.declared.Side.{Side}
use Rattle.meaning.specs.declared.Side.TheVariants.{Generation}
use Rattle.meaning.specs.Study.{Kw, Metres, Runs}
use Rattle.meaning.specs.File.{study_of}
use Rattle.meaning.specs.Grid.{Grid, grid_of}
use Rattle.meaning.specs.Sharing.{in_force, next_inward, centre_of, boundary, shared_part}
use Rattle.meaning.specs.Figures.{zones, zone_weight, zone_paying, loaded_kw, form_of, zonal_metres, own_metres, shared_of}
use Rattle.meaning.specs.Outcome.{sheet_of, answer_of, settle, prints}
use Rattle.meaning.specs.Sheet.{letter}
use Rattle.meaning.specs.Read.{field, read_natural, has_letter, line_at}
use Rattle.meaning.specs.Distances.{shown_in}
use Rattle.meaning.specs.Conditions.{Acceptable, Centre}

-- ---- "absent, empty or in edition 1, nothing changes": every answer and every sheet is that of a case without the file
pub record AsWithout (file share : List ℕ) : Type 0 where
  pub settled : (runs : Runs) (buffer : List ℕ) → settle file runs share buffer ≡ settle file runs [] buffer
  pub judged : (runs : Runs) → answer_of file runs share ≡ answer_of file runs []
  pub sheets : (runs : Runs) → sheet_of file runs share ≡ sheet_of file runs []
  pub printed : prints file share ≡ prints file []

abbrev pub NoFileNoChange : Type 0
NoFileNoChange = (file share : List ℕ) → in_force (study_of file).settings.edition share ≡ false → AsWithout file share

-- ---- "Parts along a chain, plus the centre's metres as not shared, add up to the zone's metres": of every zone, on either side, with any file
abbrev pub PartsAddUp : Type 0
PartsAddUp =
    (G : Grid) (runs : Runs) (share : List ℕ) (side : Side) (zone : ℕ)
    → own_metres G runs share YearRound side zone +ℤ shared_of G runs share side zone ≡ zonal_metres G runs YearRound side zone

-- and so on the bytes of a sheet: a zone's line with figures shows them, in one number or in two
pub record ShowsParts (G : Grid) (runs : Runs) (share sheet : List ℕ) : Type 0 where
  pub parts : (side : Side) (k : ℕ) → has_letter (letter side) (line_at k sheet) ≡ true → 1 ≤ zone_weight G side (read_natural 0 (field 1 (line_at k sheet)))
      → shown_in (form_of G share side) YearRound (line_at k sheet) ≡ zonal_metres G runs YearRound side (read_natural 0 (field 1 (line_at k sheet)))

abbrev pub PrintedParts : Type 0
PrintedParts = (file : List ℕ) (runs : Runs) (share : List ℕ) → Acceptable file runs share → ShowsParts (grid_of (study_of file)) runs share (sheet_of file runs share)

-- ---- "the shared part .. and the rest": a part of the distance and no more, "whichever sign"
pub record Between (d s : ℤ) : Type 0 where
  pub up : pos 0 ≤ℤ d → (pos 0 ≤ℤ s) × (s ≤ℤ d)
  pub down : d ≤ℤ pos 0 → (d ≤ℤ s) × (s ≤ℤ pos 0)

abbrev pub PartsBetween : Type 0
PartsBetween =
    (zones : ℕ) (next : ℕ → ℕ) (low carbon : ℕ → Kw) (metres : ℕ → Metres) (z : ℕ)
    → Between (boundary zones next low carbon metres z) (shared_part zones next low carbon metres z)

-- ---- "0 for the one centre": in an accepted case with a file in force there is one, and the chain of every zone with TEC ends there
pub record OneCentre (G : Grid) (share : List ℕ) : Type 0 where
  pub one : (y z : ℕ) → 1 ≤ y → y ≤ zones G Generation → 1 ≤ z → z ≤ zones G Generation
      → Centre (zones G Generation) (zone_weight G Generation) (next_inward share (zones G Generation)) y
      → Centre (zones G Generation) (zone_weight G Generation) (next_inward share (zones G Generation)) z → y ≡ z
  pub reached : (z : ℕ) → 1 ≤ z → z ≤ zones G Generation → 1 ≤ zone_weight G Generation z
      → Centre (zones G Generation) (zone_weight G Generation) (next_inward share (zones G Generation)) (centre_of (zones G Generation) (next_inward share (zones G Generation)) (zones G Generation) z)

abbrev pub ChainsEndAtOneCentre : Type 0
ChainsEndAtOneCentre =
    (file : List ℕ) (runs : Runs) (share : List ℕ) → Acceptable file runs share → in_force (study_of file).settings.edition share ≡ true → OneCentre (grid_of (study_of file)) share

-- ---- the kilowatts of the shared tariff: some of those that pay; all of them at full load, none at no load
pub record LoadedKw (G : Grid) (factor : (plant_type : ℕ) → ℕ) (zone : ℕ) : Type 0 where
  pub some : ((t : ℕ) → 1 ≤ t → t ≤ 7 → factor t ≤ 1000) → loaded_kw G factor zone ≤ zone_paying G Generation zone
  pub all : ((t : ℕ) → factor t ≡ 1000) → loaded_kw G factor zone ≡ zone_paying G Generation zone
  pub none : ((t : ℕ) → factor t ≡ 0) → loaded_kw G factor zone ≡ 0

abbrev pub LoadFactorsWeigh : Type 0
LoadFactorsWeigh = (G : Grid) (factor : (plant_type : ℕ) → ℕ) (zone : ℕ) → LoadedKw G factor zone

-- ---- "a wrong length": a file longer than any sound one is judged by its front as by all of it, so a program with room for more than 156 bytes may stop reading
abbrev pub ShareCut : Type 0
ShareCut = (file share : List ℕ) (room : ℕ) → 157 ≤ room → prints file (take room share) ≡ prints file share
