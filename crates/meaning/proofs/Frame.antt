-- The frame of a file: where rows lie, and that those of a whole file lie inside it. Products of a record's size and a row's number are settled here alone.
use mathlib.Core.Path.{◌≡◌, refl, sym, ap}
use mathlib.Core.Logic.{◌⊎◌, inl, inr}
use mathlib.Core.Bool.{Bool, true, false, cond}
use mathlib.Core.List.{List}
use Prim.Native.Nat.{ℕ, zero, suc, ◌+◌, ◌-◌, ◌*◌, ◌≤◌, ◌<◌, ◌^◌}
use native.Mathlib.Nat.{mul-le-mul}
use native.Mathlib.Omega.{arith}
use lib.Dec.{eqb}
use lib.ListN.{length, get_or}
use Rattle.meaning.specs.declared.Section.{Section}
use Rattle.meaning.specs.declared.Edition.{Edition}
use Rattle.meaning.specs.declared.Edition.TheVariants.{First, Second}
use Rattle.meaning.specs.Editions.{by_edition}
use Rattle.meaning.specs.Rows.{rows}
use Rattle.meaning.specs.Columns.{column}
use Rattle.meaning.specs.Study.{Runs}
use Rattle.meaning.specs.File.{edition_at, solutions, sections, trailer_size, circuit_size, record_size, most_circuits, version_of, section_count, section_start, section, row_at, table, settings_at, study_of}
use Rattle.meaning.specs.Conditions.{InRange, KnownEdition, WholeFile}
use Rattle.meaning.proofs.Rows.{below_suc, rows_at, length_rows}
use Rattle.meaning.proofs.Columns.{column_table}

-- ---- rows of any section
module _ (s : Section) where
  pub row_rise : (i n : ℕ) → i ≤ n → row_at s i ≤ row_at s n
  row_rise i n h =
      let same : s.size ≤ s.size = omega arith in
      omega (arith, mul-le-mul {n₂ = s.size} {m₂ = n} same h)

  -- a row ends where the next one begins, or before
  pub row_ends : (i n : ℕ) → i < n → row_at s i + s.size ≤ row_at s n
  row_ends i n h = let e : s.size * suc i ≡ s.size * i + s.size = omega arith in omega (arith, row_rise (suc i) n (omega arith))

  -- a row's place fits 64 bits, and so does that of any field a file has room for
  pub row_low : {i : ℕ} → s.start < 2 ^ 32 → s.size < 2 ^ 32 → i < 2 ^ 32 → row_at s i ≤ 2 ^ 64 - 2 ^ 32
  row_low {i} h k l = omega (arith, mul-le-mul {n₁ = s.size} {m₁ = i} {n₂ = 4294967295} {m₂ = 4294967295} (omega arith) (omega arith))

-- ---- a table read from a section: as many rows as it has, each at its place
pub record ReadFrom {A : Type 0} (row : ℕ → A) (none : A) (s : Section) (l : List A) : Type 0 where
  pub count : length l ≡ s.count
  pub at : (i : ℕ) → i < s.count → get_or l i none ≡ row (row_at s i)

module _ {A : Type 0} {row : ℕ → A} {none : A} {s : Section} where
  pub table_read : ReadFrom row none s (table row s)
  table_read = record { count = length_rows s.count _; at = rows_at none s.count _ }

  -- a field of its rows, past the end of the table too
  pub column_read : {B : Type 0} {l : List A} (size : ℕ) (f : A → B) → ReadFrom row none s l
      → column (f none) size s.count (λ i. f (row (row_at s i))) ≡ rows size (λ i. f (get_or l i none))
  column_read {l = l} size f r =
      rw r.count at (column_table f none l size (λ i. f (row (row_at s i))) (λ i h. sym (ap f (r.at i (omega (arith, r.count))))))

-- ---- the sections of a file
module _ (file : List ℕ) where
  -- a section ends where the next one starts
  pub section_ends : (s : ℕ) → row_at (section file s) (section file s).count ≡ section_start file (suc s)
  unfolding section section_start
  section_ends s = refl

  pub starts_rise : (s t : ℕ) → s ≤ t → section_start file s ≤ section_start file t
  unfolding section_start
  starts_rise s zero h = let e : s ≡ 0 = omega arith in rw e (omega arith)
  starts_rise s (suc t) h = go (starts_rise s t) (below_suc (suc t) s (omega arith))
    where
      go : (s ≤ t → section_start file s ≤ section_start file t) → (s < suc t) ⊎ (s ≡ suc t) → section_start file s ≤ section_start file (suc t)
      go rise (inl l) = omega (arith, rise (omega arith))
      go rise (inr e) = rw e (omega arith)

-- the edition of a study is the one that its file names
pub edition_read : (file : List ℕ) → (study_of file).settings.edition ≡ edition_at file
unfolding study_of settings_at section_start edition_at
edition_read file = refl

-- a file of a known edition is of version 1 or 2
pub known_version : (version edition : ℕ) → KnownEdition version edition → InRange version 1 2
known_version version edition (inl h) = h.0
known_version version edition (inr h) = record { least = omega (arith, h.0); most = omega (arith, h.0) }

-- however many circuits a version holds
most_low : (e : Edition) (version : ℕ) → most_circuits e version ≤ 512
unfolding most_circuits
most_low Second version = omega arith
most_low First version = go (eqb version 2) (omega arith) (omega arith)
  where
    go : (b : Bool) {x y : ℕ} → x ≤ 512 → y ≤ 512 → cond b x y ≤ 512
    go true h k = h
    go false h k = k

-- circuits and their flows take the most bytes in version 1: 34,816; 34,560 in version 2, and 28,160 in edition 2, which has two solutions more
circuits_short : (e : Edition) (version n : ℕ) → n ≤ most_circuits e version → circuit_size version * n + 8 * solutions e * n ≤ by_edition 34816 28160 e
unfolding circuit_size most_circuits
circuits_short First version n = go (eqb version 2) (omega arith) (omega arith)
  where
    go : (b : Bool) {x y : ℕ} → x ≤ 480 → y ≤ 512 → n ≤ cond b x y → cond b 48 44 * n + 24 * n ≤ 34816
    go true s t h = omega arith
    go false s t h = omega arith
circuits_short Second version n = go (eqb version 2)
  where
    go : (b : Bool) → n ≤ 320 → cond b 48 44 * n + 40 * n ≤ 28160
    go true h = omega arith
    go false h = omega arith

pub sections_are : (e : Edition) → sections e ≡ 4 + solutions e
sections_are First = refl
sections_are Second = refl

-- ---- a whole file
module _ (file : List ℕ) (runs : Runs) (whole : WholeFile file runs) where
  abbrev e : Edition
  e = edition_at file

  section_before : (s : ℕ) → s < sections e → row_at (section file s) (section file s).count + trailer_size e ≤ length file
  section_before s h = omega (arith, section_ends file s, starts_rise file (suc s) (sections e) (omega arith), whole.end)

  pub section_inside : (s : ℕ) → s < sections e → row_at (section file s) (section file s).count ≤ length file
  section_inside s h = omega (arith, section_before s h)

  -- a row lies before the trailer
  pub row_inside : (s i : ℕ) → s < sections e → i < (section file s).count → row_at (section file s) i + (section file s).size + trailer_size e ≤ length file
  row_inside s i h l = omega (arith, row_ends (section file s) i (section file s).count l, section_before s h)

  pub circuits_most : section_count file 2 ≤ 512
  circuits_most = omega (arith, whole.circuits, most_low e (version_of file))

  -- "count is nodes plus circuits", of each solution
  pub solution_count : (k : ℕ) → k < solutions e → section_count file (4 + k) ≡ section_count file 1 + section_count file 2
  solution_count k h = whole.solutions (4 + k) (omega arith) (omega (arith, sections_are e))

  -- 256 nodes, 512 circuits of version 1 and 512 stations make the longest file; of edition 2, 320 circuits
  short : (d : Edition) → section_count file 2 ≤ most_circuits d (version_of file) → section_start file (sections d) + trailer_size d ≡ length file
      → ((k : ℕ) → k < solutions d → section_count file (4 + k) ≡ section_count file 1 + section_count file 2) → length file ≤ by_edition 63616 61072 d
  unfolding section_start record_size
  short First most end count =
      let h = circuits_short First (version_of file) (section_count file 2) most in
      omega (arith, h, end, whole.one_settings, whole.nodes.most, whole.stations, count 0 (omega arith), count 1 (omega arith), count 2 (omega arith))
  short Second most end count =
      let h = circuits_short Second (version_of file) (section_count file 2) most in
      omega (
        arith,
        h,
        end,
        whole.one_settings,
        whole.nodes.most,
        whole.stations,
        count 0 (omega arith),
        count 1 (omega arith),
        count 2 (omega arith),
        count 3 (omega arith),
        count 4 (omega arith),
      )

  pub file_short : length file ≤ 63616
  file_short = go e (short e whole.circuits whole.end solution_count)
    where
      go : (d : Edition) → length file ≤ by_edition 63616 61072 d → length file ≤ 63616
      go First h = h
      go Second h = omega arith

  pub counts : (length (study_of file).nodes ≡ section_count file 1) × (length (study_of file).circuits ≡ section_count file 2) × (length (study_of file).stations ≡ section_count file 3)
  unfolding study_of section
  counts = (length_rows (section_count file 1) _, length_rows (section_count file 2) _, length_rows (section_count file 3) _)
