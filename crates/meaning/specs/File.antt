-- 01, The case file: from bytes to a study. A byte past the end reads as 0; a whole file has none.
use Rattle.std.specs.Prelude.{Bool, cond, ◌&&◌, ◌||◌, List, [], ◌∷◌, ℕ, zero, suc, ◌+◌, ◌*◌, ◌-◌, ◌^◌, eqb, leb, ltb, ℤ, pos, negsuc, length, get_or, take, drop}
use Rattle.meaning.specs.Rows.{◌between◌and◌, all, every, rows}
use Rattle.meaning.specs.declared.Section.{Section}
use Rattle.meaning.specs.declared.Edition.{Edition}
use Rattle.meaning.specs.declared.Edition.TheVariants.{First, Second}
use Rattle.meaning.specs.declared.System.{System}
use Rattle.meaning.specs.Editions.{edition_of, system_number, all_systems}
use Rattle.meaning.specs.Name.{Name}
use Rattle.meaning.specs.declared.Settings.{Settings}
use Rattle.meaning.specs.Study.{Node, Circuit, Station, Study, Runs}

-- "Little-endian": the fields at a place
unfoldable pub u32 : List ℕ → ℕ → ℕ
u32 file at = get_or file at 0 + 256 * get_or file (at + 1) 0 + 65536 * get_or file (at + 2) 0 + 16777216 * get_or file (at + 3) 0

unfoldable pub u64 : List ℕ → ℕ → ℕ
u64 file at = u32 file at + 4294967296 * u32 file (at + 4)

unfoldable pub name_at : List ℕ → ℕ → Name
name_at file at = take 12 (drop at file)

-- ---- the frame: sections, their records, and the trailer that points back at them
-- 02, request 5: "The settings' zero names the edition"
unfoldable pub edition_at : List ℕ → Edition
edition_at file = edition_of (u32 file 52)

-- the solutions of an edition: three; 02, request 5: "4 and 5, peak base and wider, follow"
abbrev pub solutions : Edition → ℕ
solutions First = 3
solutions Second = 5

-- "Sections from offset 0 in this order": 0 settings, 1 nodes, 2 circuits, 3 stations, then the solutions, system s in section 3 + s
abbrev pub sections : Edition → ℕ
sections First = 7
sections Second = 9

-- "Circuit, 44 bytes"; 02, request 3: "Case version 2 has circuit rows of 48 bytes, with the new factor last"
unfoldable pub circuit_size : (version : ℕ) → ℕ
circuit_size version = cond (eqb version 2) 48 44

-- the bytes of a record of each
unfoldable pub record_size : (version section : ℕ) → ℕ
record_size version section = get_or (64 ∷ 24 ∷ circuit_size version ∷ 32 ∷ 8 ∷ 8 ∷ 8 ∷ 8 ∷ 8 ∷ []) section 0

-- Quantities: circuits 0..512; 02, request 3: "Version 2 holds at most 480 circuits, to fit 64 KiB."; request 5: edition 2 "at most 320"
unfoldable pub most_circuits : Edition → (version : ℕ) → ℕ
most_circuits First version = cond (eqb version 2) 480 512
most_circuits Second version = 320

-- the trailer: "for each section in order, its offset and its record count", "then the version 1 and the whole file length": 64 bytes; in edition 2 "80 bytes"
abbrev pub trailer_size : Edition → ℕ
trailer_size First = 64
trailer_size Second = 80

unfoldable pub section_offset : List ℕ → (section : ℕ) → ℕ
section_offset file section = u32 file (length file - trailer_size (edition_at file) + 8 * section)

unfoldable pub section_count : List ℕ → (section : ℕ) → ℕ
section_count file section = u32 file (length file - trailer_size (edition_at file) + 8 * section + 4)

-- version and length end the file, however long the trailer is
unfoldable pub version_of : List ℕ → ℕ
version_of file = u32 file (length file - 8)

unfoldable pub stated_length : List ℕ → ℕ
stated_length file = u32 file (length file - 4)

-- where a section must start: where the one before it ends; behind the last one starts the trailer
unfoldable pub section_start : List ℕ → (section : ℕ) → ℕ
section_start file zero = 0
section_start file (suc section) = section_start file section + record_size (version_of file) section * section_count file section

-- a section of a file: where it starts, the bytes of a record, how many there are
unfoldable pub section : List ℕ → (section : ℕ) → Section
section file s = record { start = section_start file s; size = record_size (version_of file) s; count = section_count file s }

-- where row i of a section begins
abbrev pub row_at : Section → (i : ℕ) → ℕ
row_at s i = s.start + s.size * i

-- the rows of a section, each read at its place
abbrev pub table : {A : Type 0} → (row : (at : ℕ) → A) → Section → List A
table row s = rows s.count (λ i. row (row_at s i))

-- "Sections must follow one another exactly and end at the trailer."
unfoldable pub chained : List ℕ → Bool
chained file =
    let e = edition_at file in
    all (λ s. eqb (section_offset file s) (section_start file s)) (sections e) && eqb (section_start file (sections e) + trailer_size e) (length file)

-- a solution's "count is nodes plus circuits"
abbrev pub solution_count : List ℕ → ℕ
solution_count file = section_count file 1 + section_count file 2

-- Quantities: rows 1..256, 0..512 (480, 320), 0..512
unfoldable pub counted : List ℕ → Bool
counted file =
    eqb (section_count file 0) 1 && section_count file 1 between 1 and 256 && leb (section_count file 2) (most_circuits (edition_at file) (version_of file))
    && leb (section_count file 3) 512
    && all (λ k. eqb (section_count file (4 + k)) (solution_count file)) (solutions (edition_at file))

-- 01: version 1 and a zero; 02, request 3: version 2; request 5: edition 2 is "in version 2 files"
unfoldable pub known_edition : (version edition : ℕ) → Bool
known_edition version edition = version between 1 and 2 && eqb edition 0 || eqb version 2 && eqb edition 2

-- not refused as 1, for what the file says: length, version, edition, counts, chain
unfoldable pub file_whole : List ℕ → Bool
file_whole file =
    leb 128 (length file) && known_edition (version_of file) (u32 file 52) && eqb (stated_length file) (length file) && counted file && chained file

-- how many numbers a system's run has: none where the edition has no such system
unfoldable pub run_length : List ℕ → System → ℕ
run_length file s = cond (leb (system_number s) (solutions (edition_at file))) (solution_count file) 0

-- not refused as 1, for the lengths of the runs: "A run of another length is refused as 1."
unfoldable pub runs_whole : List ℕ → (long : System → ℕ) → Bool
runs_whole file long = every (λ s. eqb (long s) (run_length file s)) all_systems

unfoldable pub settings_at : List ℕ → ℕ → Settings
settings_at file at =
    record {
      generation_zones = u32 file at;
      demand_zones = u32 file (at + 4);
      p = u32 file (at + 8);
      constant = u32 file (at + 12);
      wider_factor = u32 file (at + 16);
      local_factor = u32 file (at + 20);
      overhead400 = u32 file (at + 24);
      cable400 = u32 file (at + 28);
      overhead275 = u32 file (at + 32);
      cable275 = u32 file (at + 36);
      overhead132 = u32 file (at + 40);
      cable132 = u32 file (at + 44);
      reference = u32 file (at + 48);
      edition = edition_of (u32 file (at + 52));
      revenue = u64 file (at + 56);
    }

unfoldable pub node_at : List ℕ → ℕ → Node
node_at file at =
    record { name = name_at file at; generation_zone = u32 file (at + 12); demand_zone = u32 file (at + 16); demand = u32 file (at + 20) }

-- 02, request 3: the factor, where the row has room for it; "Version 1 files read as if the factor were 0"
unfoldable pub factor_at : List ℕ → (size at : ℕ) → ℕ
factor_at file size at = cond (leb 48 size) (u32 file (at + 44)) 0

unfoldable pub circuit_at : List ℕ → (size at : ℕ) → Circuit
circuit_at file size at =
    record {
      first = name_at file at;
      second = name_at file (at + 12);
      voltage = u32 file (at + 24);
      x = u32 file (at + 28);
      overhead = u32 file (at + 32);
      cable = u32 file (at + 36);
      local_mark = u32 file (at + 40);
      factor = factor_at file size at;
    }

unfoldable pub station_at : List ℕ → ℕ → Station
station_at file at =
    record { identifier = name_at file at; node = name_at file (at + 12); plant_type = u32 file (at + 24); tec = u32 file (at + 28) }

-- the study of a whole file
unfoldable pub study_of : List ℕ → Study
study_of file =
    record {
      settings = settings_at file (section_start file 0);
      nodes = table (node_at file) (section file 1);
      circuits = table (circuit_at file (section file 2).size) (section file 2);
      stations = table (station_at file) (section file 3);
    }

-- ---- the runs in a file, which the program copies out: "one i64 potential a node, then one i64 flow a circuit"
unfoldable pub i64 : List ℕ → ℕ → ℤ
i64 file at = cond (ltb (u64 file at) (2 ^ 63)) (pos (u64 file at)) (negsuc (2 ^ 64 - 1 - u64 file at))

unfoldable pub runs_in : List ℕ → Runs
runs_in file s = rows (run_length file s) (λ i. i64 file (row_at (section file (3 + system_number s)) i))
