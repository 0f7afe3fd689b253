-- 02, request 3: a whole file of version 1 with up to 480 circuits, written as version 2: four bytes of 0 more behind each circuit, and a trailer that says so. It says the same.
use mathlib.Core.Path.{◌≡◌, refl, sym, ◌∙◌, ap, ap₂, fun_ext}
use mathlib.Core.Logic.{inl, inr}
use mathlib.Core.Bool.{Bool, true, false, cond}
use mathlib.Core.List.{List, [], ◌∷◌}
use Prim.Native.Nat.{ℕ, zero, suc, ◌+◌, ◌*◌, ◌-◌, ◌/◌, ◌%◌, ◌≤◌, ◌<◌}
use native.Mathlib.Decide.{dec_lt}
use native.Mathlib.Omega.{arith}
use borrow.Author.Tests.{lt-ltb, le-ltb, le-leb, eq-eqb, ne_eqb}
use lib.Dec.{eqb, leb, ltb}
use lib.ListN.{length, get_or, take, drop, length-drop}
use lib.Seq.{get_or-drop}
use Rattle.meaning.specs.declared.Section.{Section}
use Rattle.meaning.specs.Rows.{rows}
use Rattle.meaning.specs.declared.Edition.{Edition}
use Rattle.meaning.specs.declared.Edition.TheVariants.{First}
use Rattle.meaning.specs.declared.Background.TheVariants.{YearRound, Peak}
use Rattle.meaning.specs.declared.System.{System}
use Rattle.meaning.specs.declared.System.TheVariants.{Base, Wider, Local}
use Rattle.meaning.specs.Editions.{edition_of, system_number}
use Rattle.meaning.specs.File.{u32, u64, name_at, edition_at, sections, trailer_size, circuit_size, record_size, most_circuits, version_of, stated_length, section_count, section_offset, section_start, section, solution_count, row_at, table, settings_at, node_at, factor_at, circuit_at, station_at, study_of, i64, run_length, runs_in}
use Rattle.meaning.specs.Conditions.{KnownEdition, WholeFile}
use Rattle.meaning.specs.Versions.{EveryCaseInVersionTwo}
use Rattle.meaning.proofs.Rows.{rows_at, rows_past, rows_same, length_rows}
use Rattle.meaning.proofs.Whole.{own_lengths}
use Rattle.meaning.proofs.Frame.{starts_rise, row_inside, file_short, counts}

-- ---- n bytes that are the same in two files, at two places
record Window (l l' : List ℕ) (a a' n : ℕ) : Type 0 where
  pub byte : (b : ℕ) → b < n → get_or l (a + b) 0 ≡ get_or l' (a' + b) 0
  pub inside : a + n ≤ length l
  pub inside' : a' + n ≤ length l'

-- a part of them
within : {l l' : List ℕ} {a a' n : ℕ} → Window l l' a a' n → (k j : ℕ) → k + j ≤ n → Window l l' (a + k) (a' + k) j
within {a = a} {a' = a'} h k j f =
    record {
      byte = λ b g.
          let e : a + k + b ≡ a + (k + b) = omega arith in
          let e' : a' + k + b ≡ a' + (k + b) = omega arith in
          rw (e, e') (h.byte (k + b) (omega arith));
      inside = omega (arith, h.inside);
      inside' = omega (arith, h.inside');
    }

begins : {l l' : List ℕ} {a a' n : ℕ} → Window l l' a a' n → (j : ℕ) → j ≤ n → Window l l' a a' j
begins h j f = record { byte = λ b g. h.byte b (omega arith); inside = omega (arith, h.inside); inside' = omega (arith, h.inside') }

same_u32 : {l l' : List ℕ} {a a' : ℕ} → Window l l' a a' 4 → u32 l a ≡ u32 l' a'
unfolding u32
same_u32 {l} {l'} {a} {a'} h =
    let e : a + 0 ≡ a = omega arith in
    let e' : a' + 0 ≡ a' = omega arith in
    let zeroth : get_or l a 0 ≡ get_or l' a' 0 = rw (e, e') at (h.byte 0 (omega arith)) in
    rw (zeroth, h.byte 1 (omega arith), h.byte 2 (omega arith), h.byte 3 (omega arith)) refl

same_u64 : {l l' : List ℕ} {a a' : ℕ} → Window l l' a a' 8 → u64 l a ≡ u64 l' a'
unfolding u64
same_u64 h = rw (same_u32 (begins h 4 (omega arith)), same_u32 (within h 4 4 (omega arith))) refl

same_i64 : {l l' : List ℕ} {a a' : ℕ} → Window l l' a a' 8 → i64 l a ≡ i64 l' a'
unfolding i64
same_i64 h = rw (same_u64 h) refl

front_rows : (n : ℕ) (l : List ℕ) → n ≤ length l → take n l ≡ rows n (λ b. get_or l b 0)
unfolding rows
front_rows zero l h = refl
front_rows (suc n) [] h = absurd (omega arith)
front_rows (suc n) (x ∷ l) h = ap (λ r. x ∷ r) (front_rows n l (omega arith))

same_name : {l l' : List ℕ} {a a' : ℕ} → Window l l' a a' 12 → name_at l a ≡ name_at l' a'
unfolding name_at
same_name {l} {l'} {a} {a'} h =
    front_rows 12 (drop a l) (omega (arith, length-drop a l, h.inside))
    ∙ rows_same 12 _ _ (λ b k. get_or-drop a l b 0 ∙ h.byte b k ∙ sym (get_or-drop a' l' b 0))
    ∙ sym (front_rows 12 (drop a' l') (omega (arith, length-drop a' l', h.inside')))

same_node : {l l' : List ℕ} {a a' : ℕ} → Window l l' a a' 24 → node_at l a ≡ node_at l' a'
unfolding node_at
same_node h =
    rw (same_name (begins h 12 (omega arith)), same_u32 (within h 12 4 (omega arith)), same_u32 (within h 16 4 (omega arith)), same_u32 (within h 20 4 (omega arith))) refl

same_station : {l l' : List ℕ} {a a' : ℕ} → Window l l' a a' 32 → station_at l a ≡ station_at l' a'
unfolding station_at
same_station h =
    rw (same_name (begins h 12 (omega arith)), same_name (within h 12 12 (omega arith)), same_u32 (within h 24 4 (omega arith)), same_u32 (within h 28 4 (omega arith))) refl

-- a row of version 1, and one of version 2 with a factor of 0
same_circuit : {l l' : List ℕ} {a a' : ℕ} → Window l l' a a' 44 → u32 l (a + 44) ≡ 0 → circuit_at l 48 a ≡ circuit_at l' 44 a'
unfolding circuit_at factor_at
same_circuit h z =
    rw (same_name (begins h 12 (omega arith)), same_name (within h 12 12 (omega arith)), same_u32 (within h 24 4 (omega arith)), same_u32 (within h 28 4 (omega arith)), same_u32 (within h 32 4 (omega arith)), same_u32 (within h 36 4 (omega arith)), same_u32 (within h 40 4 (omega arith)), z) refl

same_settings : {l l' : List ℕ} → Window l l' 0 0 64 → settings_at l 0 ≡ settings_at l' 0
unfolding settings_at
same_settings h =
    rw (same_u32 (begins h 4 (omega arith)), same_u32 (within h 4 4 (omega arith)), same_u32 (within h 8 4 (omega arith)), same_u32 (within h 12 4 (omega arith)), same_u32 (within h 16 4 (omega arith)), same_u32 (within h 20 4 (omega arith)), same_u32 (within h 24 4 (omega arith)), same_u32 (within h 28 4 (omega arith)), same_u32 (within h 32 4 (omega arith)), same_u32 (within h 36 4 (omega arith)), same_u32 (within h 40 4 (omega arith)), same_u32 (within h 44 4 (omega arith)), same_u32 (within h 48 4 (omega arith)), same_u32 (within h 52 4 (omega arith)), same_u64 (within h 56 8 (omega arith))) refl

-- ---- the bytes of a number, lowest first
digit : (b n : ℕ) → ℕ
digit zero n = n % 256
digit (suc zero) n = n / 256 % 256
digit (suc (suc zero)) n = n / 65536 % 256
digit (suc (suc (suc b))) n = n / 16777216

number : (l : List ℕ) (a n : ℕ) → ((b : ℕ) → b < 4 → get_or l (a + b) 0 ≡ digit b n) → u32 l a ≡ n
unfolding u32 digit
number l a n h =
    let e : a + 0 ≡ a = omega arith in
    let zeroth : get_or l a 0 ≡ n % 256 = rw e at (h 0 (omega arith)) in
    rw (zeroth, h 1 (omega arith), h 2 (omega arith), h 3 (omega arith)) (omega arith)

-- tables of two sections that have the same rows
same_table : {A : Type 0} (f g : ℕ → A) (s t : Section) → s.count ≡ t.count → ((i : ℕ) → i < t.count → f (row_at s i) ≡ g (row_at t i)) → table f s ≡ table g t
same_table f g s t e h = rw e (rows_same t.count _ _ h)

-- only the circuits' records have another size
same_size : (s : ℕ) → 3 ≤ s → record_size 2 s ≡ record_size 1 s
unfolding record_size
same_size zero h = absurd (omega arith)
same_size (suc zero) h = absurd (omega arith)
same_size (suc (suc zero)) h = absurd (omega arith)
same_size (suc (suc (suc s))) h = refl

eight : (v k : ℕ) → k < 3 → 8 ≤ record_size v (4 + k)
unfolding record_size
eight v zero h = omega arith
eight v (suc zero) h = omega arith
eight v (suc (suc zero)) h = omega arith
eight v (suc (suc (suc k))) h = absurd (omega arith)

-- ---- the file as version 2
module _ (file : List ℕ) (whole : WholeFile file (runs_in file)) (one : version_of file ≡ 1) (few : section_count file 2 ≤ 480) where
  abbrev m : ℕ
  m = section_count file 2

  abbrev rows₀ : ℕ
  rows₀ = section_start file 2

  abbrev long : ℕ
  long = length file + 4 * m

  -- where each section starts then
  abbrev start : ℕ → ℕ
  start s = section_start file s + cond (leb 3 s) (4 * m) 0

  -- the numbers of the trailer
  abbrev pointer : ℕ → ℕ
  pointer f = cond (eqb f 15) long (cond (eqb f 14) 2 (cond (eqb (f % 2) 0) (start (f / 2)) (section_count file (f / 2))))

  abbrev row_byte : (i j : ℕ) → ℕ
  row_byte i j = cond (ltb j 44) (get_or file (rows₀ + 44 * i + j) 0) 0

  byte_at : ℕ → ℕ
  byte_at k =
      cond (ltb k rows₀) (get_or file k 0)
      (cond (ltb k (rows₀ + 48 * m)) (row_byte ((k - rows₀) / 48) ((k - rows₀) % 48))
      (cond (ltb k (long - 64)) (get_or file (k - 4 * m) 0)
      (digit ((k - (long - 64)) % 4) (pointer ((k - (long - 64)) / 4)))))

  twin : List ℕ
  twin = rows long byte_at

  twin_long : length twin ≡ long
  unfolding twin
  twin_long = length_rows long byte_at

  -- ---- where things are in the file
  record Places : Type 0 where
    pub front : 64 ≤ rows₀
    pub behind : rows₀ + 44 * m + 64 ≤ length file

  -- version 1 has edition 1 alone
  no_edition : u32 file 52 ≡ 0
  no_edition = go whole.edition
    where
      go : KnownEdition (version_of file) (u32 file 52) → u32 file 52 ≡ 0
      go (inl h) = h.1
      go (inr h) = absurd (omega (arith, one, h.0))

  first : edition_at file ≡ First
  unfolding edition_at edition_of
  first = rw no_edition refl

  in_sections : {s : ℕ} → s < 7 → s < sections (edition_at file)
  in_sections h = rw first h

  ends : section_start file 7 + 64 ≡ length file
  ends = rw first at whole.end

  places : Places
  unfolding section_start record_size circuit_size
  places =
      let end = rw one at ends in
      record { front = omega (arith, whole.one_settings); behind = omega (arith, end) }

  -- ---- the bytes of the twin
  in_front : (k : ℕ) → k < rows₀ → get_or twin k 0 ≡ get_or file k 0
  unfolding twin byte_at
  in_front k h = rows_at 0 long byte_at k (omega (arith, places.behind)) ∙ simp (lt-ltb k rows₀ h)

  in_rows : (i j : ℕ) → i < m → j < 48 → get_or twin (rows₀ + 48 * i + j) 0 ≡ row_byte i j
  unfolding twin byte_at
  in_rows i j h g =
      let k : ℕ = rows₀ + 48 * i + j in
      let row : (k - rows₀) / 48 ≡ i = omega arith in
      let place : (k - rows₀) % 48 ≡ j = omega arith in
      rows_at 0 long byte_at k (omega (arith, places.behind)) ∙ simp (le-ltb k rows₀ (omega arith), lt-ltb k (rows₀ + 48 * m) (omega arith), row, place)

  behind_rows : (k : ℕ) → rows₀ + 44 * m ≤ k → k + 64 < length file → get_or twin (k + 4 * m) 0 ≡ get_or file k 0
  unfolding twin byte_at
  behind_rows k h g =
      let back : k + 4 * m - 4 * m ≡ k = omega arith in
      rows_at 0 long byte_at (k + 4 * m) (omega arith)
      ∙ simp (le-ltb (k + 4 * m) rows₀ (omega arith), le-ltb (k + 4 * m) (rows₀ + 48 * m) (omega arith), lt-ltb (k + 4 * m) (long - 64) (omega arith), back)

  in_trailer : (f b : ℕ) → f < 16 → b < 4 → get_or twin (long - 64 + 4 * f + b) 0 ≡ digit b (pointer f)
  unfolding twin byte_at
  in_trailer f b h g =
      let k : ℕ = long - 64 + 4 * f + b in
      let field : (k - (long - 64)) / 4 ≡ f = omega arith in
      let place : (k - (long - 64)) % 4 ≡ b = omega arith in
      rows_at 0 long byte_at k (omega (arith, places.behind))
      ∙ simp (le-ltb k rows₀ (omega (arith, places.behind)), le-ltb k (rows₀ + 48 * m) (omega (arith, places.behind)), le-ltb k (long - 64) (omega arith), field, place)

  front_at : (a n : ℕ) → a + n ≤ rows₀ → Window twin file a a n
  front_at a n h =
      record { byte = λ b g. in_front (a + b) (omega arith); inside = rw twin_long (omega (arith, places.behind)); inside' = omega (arith, places.behind) }

  first_twin : edition_at twin ≡ First
  unfolding edition_at edition_of
  first_twin = rw (same_u32 (front_at 52 4 (omega (arith, places.front))), no_edition) refl

  -- ---- the numbers of its trailer
  told : (f a : ℕ) → f < 16 → a ≡ long - 64 + 4 * f → u32 twin a ≡ pointer f
  told f a h e = rw e (number twin (long - 64 + 4 * f) (pointer f) (λ b g. in_trailer f b h g))

  version_two : version_of twin ≡ 2
  unfolding version_of
  version_two = rw twin_long (told 14 (long - 8) (omega arith) (omega (arith, places.behind)))

  says_length : stated_length twin ≡ long
  unfolding stated_length
  says_length = rw twin_long (told 15 (long - 4) (omega arith) (omega (arith, places.behind)))

  count_is : (s : ℕ) → s < 7 → section_count twin s ≡ section_count file s
  unfolding section_count
  count_is s h =
      let odd : (2 * s + 1) % 2 ≡ 1 = omega arith in
      let half : (2 * s + 1) / 2 ≡ s = omega arith in
      ap₂ (λ (e : Edition) (n : ℕ). u32 twin (n - trailer_size e + 8 * s + 4)) first_twin twin_long
      ∙ told (2 * s + 1) (long - 64 + 8 * s + 4) (omega arith) (omega arith)
      ∙ simp (ne_eqb (2 * s + 1) 15 (omega arith), ne_eqb (2 * s + 1) 14 (omega arith), odd, half)

  offset_is : (s : ℕ) → s < 7 → section_offset twin s ≡ start s
  unfolding section_offset
  offset_is s h =
      let even : 2 * s % 2 ≡ 0 = omega arith in
      let half : 2 * s / 2 ≡ s = omega arith in
      ap₂ (λ (e : Edition) (n : ℕ). u32 twin (n - trailer_size e + 8 * s)) first_twin twin_long
      ∙ told (2 * s) (long - 64 + 8 * s) (omega arith) (omega arith)
      ∙ simp (ne_eqb (2 * s) 15 (omega arith), ne_eqb (2 * s) 14 (omega arith), even, half)

  -- ---- its sections: those behind the circuits start later
  start_is : (s : ℕ) → s ≤ 7 → section_start twin s ≡ start s
  unfolding section_start record_size circuit_size
  start_is zero h = refl
  start_is (suc zero) h = rw (count_is 0 (omega arith)) (omega arith)
  start_is (suc (suc zero)) h = rw (count_is 0 (omega arith), count_is 1 (omega arith)) (omega arith)
  start_is (suc (suc (suc zero))) h = rw (version_two, one, count_is 0 (omega arith), count_is 1 (omega arith), count_is 2 (omega arith)) (omega arith)
  start_is (suc (suc (suc (suc zero)))) h =
      rw (version_two, one, count_is 0 (omega arith), count_is 1 (omega arith), count_is 2 (omega arith), count_is 3 (omega arith)) (omega arith)
  start_is (suc (suc (suc (suc (suc zero))))) h =
      rw (version_two, one, count_is 0 (omega arith), count_is 1 (omega arith), count_is 2 (omega arith), count_is 3 (omega arith), count_is 4 (omega arith)) (omega arith)
  start_is (suc (suc (suc (suc (suc (suc zero)))))) h =
      rw (version_two, one, count_is 0 (omega arith), count_is 1 (omega arith), count_is 2 (omega arith), count_is 3 (omega arith), count_is 4 (omega arith), count_is 5 (omega arith)) (omega arith)
  start_is (suc (suc (suc (suc (suc (suc (suc zero))))))) h =
      rw (version_two, one, count_is 0 (omega arith), count_is 1 (omega arith), count_is 2 (omega arith), count_is 3 (omega arith), count_is 4 (omega arith), count_is 5 (omega arith), count_is 6 (omega arith)) (omega arith)
  start_is (suc (suc (suc (suc (suc (suc (suc (suc s)))))))) h = absurd (omega arith)

  -- ---- what stands where
  row_at_lem : (i : ℕ) → i < m → Window twin file (rows₀ + 48 * i) (rows₀ + 44 * i) 44
  row_at_lem i h =
      record {
        byte = λ j g. in_rows i j h (omega arith) ∙ simp (lt-ltb j 44 g);
        inside = rw twin_long (omega (arith, places.behind));
        inside' = omega (arith, places.behind);
      }

  digit_zero : (b : ℕ) → digit b 0 ≡ 0
  unfolding digit
  digit_zero zero = refl
  digit_zero (suc zero) = refl
  digit_zero (suc (suc zero)) = refl
  digit_zero (suc (suc (suc b))) = refl

  no_factor : (i : ℕ) → i < m → u32 twin (rows₀ + 48 * i + 44) ≡ 0
  no_factor i h = number twin (rows₀ + 48 * i + 44) 0 (λ b g.
      let e : rows₀ + 48 * i + 44 + b ≡ rows₀ + 48 * i + (44 + b) = omega arith in
      rw (e, digit_zero b) (in_rows i (44 + b) h (omega arith) ∙ simp (le-ltb (44 + b) 44 (omega arith))))

  later_at : (a n : ℕ) → rows₀ + 44 * m ≤ a → a + n + 64 ≤ length file → Window twin file (a + 4 * m) a n
  later_at a n h g =
      record {
        byte = λ b k. let e : a + 4 * m + b ≡ a + b + 4 * m = omega arith in rw e (behind_rows (a + b) (omega arith) (omega arith));
        inside = rw twin_long (omega arith);
        inside' = omega arith;
      }

  -- ---- what it says
  same_nodes : (study_of twin).nodes ≡ (study_of file).nodes
  unfolding study_of section section_start record_size
  same_nodes = same_table (node_at twin) (node_at file) (section twin 1) (section file 1) (count_is 1 (omega arith)) (λ i h. go i h)
    where
      go : (i : ℕ) → i < section_count file 1 → node_at twin (section_start twin 1 + 24 * i) ≡ node_at file (section_start file 1 + 24 * i)
      go i h = rw (count_is 0 (omega arith)) (same_node (front_at (0 + 64 * section_count file 0 + 24 * i) 24 (omega arith)))

  same_circuits : (study_of twin).circuits ≡ (study_of file).circuits
  unfolding study_of section record_size circuit_size
  same_circuits = same_table (circuit_at twin (section twin 2).size) (circuit_at file (section file 2).size) (section twin 2) (section file 2) (count_is 2 (omega arith)) (λ i h. rw (version_two, one, start_is 2 (omega arith)) (go i h))
    where
      go : (i : ℕ) → i < section_count file 2 → circuit_at twin 48 (section_start file 2 + 0 + 48 * i) ≡ circuit_at file 44 (section_start file 2 + 44 * i)
      go i h = let e : section_start file 2 + 0 ≡ section_start file 2 = omega arith in rw e (same_circuit (row_at_lem i h) (no_factor i h))

  third : section_start file 3 ≡ rows₀ + 44 * m
  unfolding section_start record_size circuit_size
  third = rw one refl

  -- a row behind the circuits
  later_row : (s i : ℕ) → 3 ≤ s → s < 7 → i < section_count file s → Window twin file (row_at (section twin s) i) (row_at (section file s) i) (section file s).size
  unfolding section
  later_row s i h l k =
      let size : record_size (version_of twin) s ≡ record_size (version_of file) s = rw (version_two, one) (same_size s h) in
      let begin : section_start twin s ≡ section_start file s + 4 * m = start_is s (omega arith) ∙ simp (le-leb 3 s h) in
      let e : row_at (section twin s) i ≡ row_at (section file s) i + 4 * m = rw (size, begin) (omega arith) in
      rw e (later_at (row_at (section file s) i) (section file s).size (omega (arith, starts_rise file 3 s h, third)) (rw first at (row_inside file (runs_in file) whole s i (in_sections l) k)))

  same_stations : (study_of twin).stations ≡ (study_of file).stations
  unfolding study_of section record_size
  same_stations = same_table (station_at twin) (station_at file) (section twin 3) (section file 3) (count_is 3 (omega arith)) (λ i h. same_station (later_row 3 i (omega arith) (omega arith) h))

  numbers : solution_count twin ≡ solution_count file
  numbers = rw (count_is 1 (omega arith), count_is 2 (omega arith)) refl

  same_run : (k : ℕ) → k < 3 → rows (solution_count file) (λ i. i64 file (row_at (section file (4 + k)) i)) ≡ rows (solution_count twin) (λ i. i64 twin (row_at (section twin (4 + k)) i))
  unfolding section
  same_run k h =
      let count : section_count file (4 + k) ≡ solution_count file = whole.solutions (4 + k) (omega arith) (in_sections (omega arith)) in
      rw numbers
      (rows_same (solution_count file) _ _ (λ i l. sym (same_i64 (begins (later_row (4 + k) i (omega arith) (omega arith) (omega (arith, count))) 8 (eight (version_of file) k h)))))

  same_solutions : runs_in file ≡ runs_in twin
  unfolding runs_in run_length system_number rows
  same_solutions = fun_ext own
    where
      own : (s : System) → runs_in file s ≡ runs_in twin s
      own (Base YearRound) = rw (first, first_twin) (same_run 0 (omega arith))
      own (Wider YearRound) = rw (first, first_twin) (same_run 1 (omega arith))
      own Local = rw (first, first_twin) (same_run 2 (omega arith))
      own (Base Peak) = rw (first, first_twin) refl
      own (Wider Peak) = rw (first, first_twin) refl

  same_first : (study_of twin).settings ≡ (study_of file).settings
  unfolding study_of section_start
  same_first = same_settings (front_at 0 64 places.front)

  twin_counts : (s : ℕ) → 4 ≤ s → s < 7 → section_count twin s ≡ solution_count twin
  twin_counts s l h = rw (count_is s h, count_is 1 (omega arith), count_is 2 (omega arith)) (whole.solutions s l (in_sections h))

  twin_whole : WholeFile twin (runs_in twin)
  unfolding most_circuits
  twin_whole =
      record {
        long = rw twin_long (omega (arith, whole.long));
        edition = rw version_two (inl (record { least = omega arith; most = omega arith }, same_u32 (front_at 52 4 (omega (arith, places.front))) ∙ no_edition));
        file_length = says_length ∙ sym twin_long;
        one_settings = count_is 0 (omega arith) ∙ whole.one_settings;
        nodes = rw (count_is 1 (omega arith)) whole.nodes;
        circuits = rw (first_twin, version_two, count_is 2 (omega arith)) few;
        stations = rw (count_is 3 (omega arith)) whole.stations;
        solutions = λ s l h. twin_counts s l (rw first_twin at h);
        chain = λ s h. let k : s < 7 = rw first_twin at h in offset_is s k ∙ sym (start_is s (omega arith));
        end = rw (first_twin, start_is 7 (omega arith), twin_long) (omega (arith, ends));
        lengths = own_lengths twin;
      }

  -- ---- its bytes are bytes
  count_low : (s : ℕ) → s < 7 → section_count file s ≤ 768
  count_low zero h = omega (arith, whole.one_settings)
  count_low (suc zero) h = omega (arith, whole.nodes.most)
  count_low (suc (suc zero)) h = omega (arith, few)
  count_low (suc (suc (suc zero))) h = omega (arith, whole.stations)
  count_low (suc (suc (suc (suc s)))) h =
      omega (arith, whole.solutions (suc (suc (suc (suc s)))) (omega arith) (in_sections h), whole.nodes.most, few)

  start_low : (s : ℕ) → s < 7 → start s ≤ 65536
  start_low s h = go (leb 3 s)
    where
      go : (b : Bool) → section_start file s + cond b (4 * m) 0 ≤ 65536
      go true = omega (arith, starts_rise file s 7 (omega arith), ends, file_short file (runs_in file) whole, few)
      go false = omega (arith, starts_rise file s 7 (omega arith), ends, file_short file (runs_in file) whole)

  pointer_low : (f : ℕ) → f < 16 → pointer f ≤ 65536
  pointer_low f h = go (dec_lt f 15) (dec_lt f 14)
    where
      even : (c : Bool) → f < 14 → cond c (start (f / 2)) (section_count file (f / 2)) ≤ 65536
      even true l = start_low (f / 2) (omega arith)
      even false l = omega (arith, count_low (f / 2) (omega arith))

      go : Dec (f < 15) → Dec (f < 14) → pointer f ≤ 65536
      go (no g) l = simp (eq-eqb f 15 (omega arith)) (omega (arith, file_short file (runs_in file) whole, few))
      go (yes g) (no l) = simp (ne_eqb f 15 (omega arith), eq-eqb f 14 (omega arith)) (omega arith)
      go (yes g) (yes l) = simp (ne_eqb f 15 (omega arith), ne_eqb f 14 (omega arith)) (even (eqb (f % 2) 0) l)

  digit_low : (b n : ℕ) → n ≤ 65536 → digit b n < 256
  unfolding digit
  digit_low zero n h = omega arith
  digit_low (suc zero) n h = omega arith
  digit_low (suc (suc zero)) n h = omega arith
  digit_low (suc (suc (suc b))) n h = omega arith

  twin_bytes : ((k : ℕ) → get_or file k 0 < 256) → (k : ℕ) → get_or twin k 0 < 256
  unfolding twin byte_at
  twin_bytes small k = go (dec_lt k long)
    where
      row : (b : Bool) (x : ℕ) → x < 256 → cond b x 0 < 256
      row true x h = h
      row false x h = omega arith

      pick : (a b c : Bool) (w x y z : ℕ) → w < 256 → x < 256 → y < 256 → z < 256 → cond a w (cond b x (cond c y z)) < 256
      pick true b c w x y z h i j l = h
      pick false true c w x y z h i j l = i
      pick false false true w x y z h i j l = j
      pick false false false w x y z h i j l = l

      go : Dec (k < long) → get_or twin k 0 < 256
      go (yes h) =
          rw (rows_at 0 long byte_at k h)
          (pick (ltb k rows₀) (ltb k (rows₀ + 48 * m)) (ltb k (long - 64)) _ _ _ _ (small k)
          (row (ltb ((k - rows₀) % 48) 44) _ (small (rows₀ + 44 * ((k - rows₀) / 48) + (k - rows₀) % 48))) (small (k - 4 * m))
          (digit_low ((k - (long - 64)) % 4) _ (pointer_low ((k - (long - 64)) / 4) (omega (arith, places.behind)))))
      go (no h) = rw (rows_past 0 long byte_at k (omega arith)) (omega arith)

pub every_case_in_version_two : EveryCaseInVersionTwo
every_case_in_version_two file whole one few =
    let most : section_count file 2 ≤ 480 = omega (arith, (counts file (runs_in file) whole).1) in
    record {
      twin = twin file whole one most;
      bytes = twin_bytes file whole one most;
      version = version_two file whole one most;
      same = record {
        whole = whole;
        other_whole = twin_whole file whole one most;
        settings = sym (same_first file whole one most);
        nodes = sym (same_nodes file whole one most);
        circuits = sym (same_circuits file whole one most);
        stations = sym (same_stations file whole one most);
      };
      solutions = same_solutions file whole one most;
    }
