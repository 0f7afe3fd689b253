-- What a readable file says, row by row: each row is read at its place in the file.
use mathlib.Core.Path.{◌≡◌, refl}
use mathlib.Core.List.{List, []}
use mathlib.Core.Bool.{Bool, true, false, cond, ◌&&◌}
use Prim.Native.Nat.{ℕ, ◌+◌, ◌≤◌, ◌<◌}
use native.Mathlib.Omega.{arith}
use borrow.Author.Tests.{lt-ltb}
use lib.Dec.{ltb}
use lib.ListN.{length}
use Rattle.meaning.specs.declared.Section.{Section}
use Rattle.meaning.specs.declared.Settings.{Settings}
use Rattle.meaning.specs.Rows.{rows}
use Rattle.meaning.specs.Study.{Study, no_node, no_circuit, no_station}
use Rattle.meaning.specs.File.{u32, edition_at, sections, record_size, section_count, section, row_at, table, settings_at, node_at, circuit_at, station_at, file_whole, study_of, runs_in}
use Rattle.meaning.proofs.Rows.{length_rows}
use Rattle.meaning.proofs.Says.{◌also◌, says_lt, says_true}
use Rattle.meaning.proofs.Frame.{ReadFrom, table_read, row_inside, circuits_most}
use Rattle.meaning.proofs.Whole.{whole_file}
use Rattle.layout.proofs.FileLaws.{sections_least, start_zero}
use Rattle.layout.specs.Readable.{readable, no_section, section_in}
use Rattle.layout.specs.Frame.{counts_of}
use Rattle.layout.specs.declared.RowCounts.{RowCounts}

-- counts in their ranges
pub record Few (r : RowCounts) : Type 0 where
  pub nodes_low : r.nodes ≤ 256
  pub circuits_low : r.circuits ≤ 512

module _ (file : List ℕ) where
  pub readable_whole : file_whole file ≡ true → readable file ≡ study_of file
  unfolding readable
  readable_whole e = rw e refl

  readable_none : file_whole file ≡ false → readable file ≡ study_of []
  unfolding readable
  readable_none e = rw e refl

  pub counts_study : (nodes circuits stations : ℕ) → nodes ≡ section_count file 1 → circuits ≡ section_count file 2 → stations ≡ section_count file 3
      → record { nodes = nodes; circuits = circuits; stations = stations } ≡ counts_of (study_of file)
  unfolding counts_of study_of section
  counts_study n m k e f g = rw (e, f, g, length_rows (section_count file 1) _, length_rows (section_count file 2) _, length_rows (section_count file 3) _)

  pub counts_whole : {r : RowCounts} → r ≡ counts_of (study_of file) → file_whole file ≡ true → r ≡ counts_of (readable file)
  counts_whole e h = rw (readable_whole h) e

  pub counts_none : file_whole file ≡ false → record { nodes = 0; circuits = 0; stations = 0 } ≡ counts_of (readable file)
  unfolding counts_of study_of section section_count u32 rows
  counts_none e = rw (readable_none e)

  pub counts_are : {r : RowCounts} → r ≡ counts_of (readable file)
      → (r.nodes ≡ length (readable file).nodes) × (r.circuits ≡ length (readable file).circuits) × (r.stations ≡ length (readable file).stations)
  unfolding counts_of
  counts_are e = rw e (refl, refl, refl)

  -- ---- settings
  pub settings_whole : {s : Settings} → s ≡ settings_at file 0 → file_whole file ≡ true → s ≡ (readable file).settings
  unfolding study_of
  settings_whole e h = rw (readable_whole h, start_zero file) e

  pub settings_none : {s : Settings} → s ≡ settings_at [] 0 → file_whole file ≡ false → s ≡ (readable file).settings
  unfolding study_of
  settings_none e h = rw (readable_none h, start_zero []) e

  -- ---- the tables: how many rows, and where
  abbrev S : Study
  S = readable file

  -- ---- sections
  pub in_whole : (s : ℕ) → s < sections (edition_at file) → file_whole file ≡ true → section_in file s ≡ section file s
  unfolding section_in
  in_whole s h e = rw (lt-ltb s (sections (edition_at file)) h, e) refl

  -- what holds of a whole file's section, and of one without rows
  either_section : (P : Section → Type 0) (s : ℕ) → (s < sections (edition_at file) → file_whole file ≡ true → P (section file s)) → P no_section → P (section_in file s)
  unfolding section_in
  either_section P s w n = go (ltb s (sections (edition_at file)) && file_whole file) refl
    where
      go : (b : Bool) → (ltb s (sections (edition_at file)) && file_whole file) ≡ b → P (cond b (section file s) no_section)
      go true e = let t = (says_lt {m = s} {n = sections (edition_at file)} also says_true (file_whole file)).0 e in w t.0 t.1
      go false e = n

  -- a node's row lies inside the file
  pub node_inside : {t : Section} → t ≡ section_in file 1 → (i : ℕ) → i < t.count → row_at t i < length file
  unfolding section record_size
  node_inside e i = rw e (either_section (λ t. i < t.count → row_at t i < length file) 1
      (λ h e l. let w = whole_file file e in omega (arith, row_inside file (runs_in file) w 1 i h l))
      (λ l. absurd (omega arith)))

  -- ---- tables: a row is read at its place
  -- every edition has the tables' sections
  table_in : (s : ℕ) → s < 7 → section_in file s ≡ cond (file_whole file) (section file s) no_section
  unfolding section_in
  table_in s h = rw (lt-ltb s (sections (edition_at file)) (omega (arith, sections_least (edition_at file)))) refl

  nodes_read : S.nodes ≡ table (node_at file) (section_in file 1)
  unfolding readable study_of section section_count u32 rows
  nodes_read = rw (table_in 1 (omega arith)) (go (file_whole file))
    where
      go : (b : Bool) → (study_of (cond b file [])).nodes ≡ table (node_at file) (cond b (section file 1) no_section)
      go true = refl
      go false = refl

  circuits_read : S.circuits ≡ table (circuit_at file (section_in file 2).size) (section_in file 2)
  unfolding readable study_of section section_count u32 rows
  circuits_read = rw (table_in 2 (omega arith)) (go (file_whole file))
    where
      go : (b : Bool) → (study_of (cond b file [])).circuits ≡ table (circuit_at file (cond b (section file 2) no_section).size) (cond b (section file 2) no_section)
      go true = refl
      go false = refl

  stations_read : S.stations ≡ table (station_at file) (section_in file 3)
  unfolding readable study_of section section_count u32 rows
  stations_read = rw (table_in 3 (omega arith)) (go (file_whole file))
    where
      go : (b : Bool) → (study_of (cond b file [])).stations ≡ table (station_at file) (cond b (section file 3) no_section)
      go true = refl
      go false = refl

  pub nodes_from : {t : Section} → t ≡ section_in file 1 → ReadFrom (node_at file) no_node t S.nodes
  nodes_from e = rw (e, nodes_read) table_read

  pub circuits_from : {t : Section} → t ≡ section_in file 2 → ReadFrom (circuit_at file t.size) no_circuit t S.circuits
  circuits_from e = rw (e, circuits_read) table_read

  pub stations_from : {t : Section} → t ≡ section_in file 3 → ReadFrom (station_at file) no_station t S.stations
  stations_from e = rw (e, stations_read) table_read

  pub nodes_few : {t : Section} → t ≡ section_in file 1 → t.count ≤ 256
  unfolding section
  nodes_few e = rw e (either_section (λ t. t.count ≤ 256) 1 (λ h e. (whole_file file e).nodes.most) (omega arith))

  pub circuits_few : {t : Section} → t ≡ section_in file 2 → t.count ≤ 512
  unfolding section
  circuits_few e = rw e (either_section (λ t. t.count ≤ 512) 2 (λ h e. circuits_most file (runs_in file) (whole_file file e)) (omega arith))

  pub stations_few : {t : Section} → t ≡ section_in file 3 → t.count ≤ 512
  unfolding section
  stations_few e = rw e (either_section (λ t. t.count ≤ 512) 3 (λ h e. (whole_file file e).stations) (omega arith))

  -- a solution: 4 base, 5 wider, 6 local, and of edition 2 peak's base 7 and wider 8
  pub solution_few : (k : ℕ) {t : Section} → t ≡ section_in file (4 + k) → t.count ≤ 768
  unfolding section
  solution_few k e = rw e (either_section (λ t. t.count ≤ 768) (4 + k)
      (λ h e. let w = whole_file file e in
      omega (arith, w.solutions (4 + k) (omega arith) h, w.nodes.most, circuits_most file (runs_in file) w)) (omega arith))

  -- ---- what the loops over the rows ask
  pub few : {r : RowCounts} → r ≡ counts_of (readable file) → Few r
  few e =
      record {
        nodes_low = omega (arith, (counts_are e).0, (nodes_from refl).count, nodes_few refl);
        circuits_low = omega (arith, (counts_are e).1, (circuits_from refl).count, circuits_few refl);
      }
