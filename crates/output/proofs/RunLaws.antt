-- The runs that the program copies out of a whole file are those that the file holds.
use mathlib.Core.Path.{◌≡◌, refl, ◌∙◌, ap}
use mathlib.Core.Bool.{true, cond}
use mathlib.Core.List.{List, ◌∷◌}
use Prim.Native.Nat.{ℕ, zero, suc, ◌+◌, ◌-◌, ◌≤◌, ◌<◌}
use native.Mathlib.Decide.{dec_le}
use native.Mathlib.Omega.{arith}
use lib.Dec.{leb, ltb}
use lib.IntN.{ℤ, pos}
use lib.ListN.{take}
use borrow.Author.Tests.{lt-ltb, le-ltb, le-leb, lt-leb}
use Rattle.meaning.specs.declared.Section.{Section}
use Rattle.meaning.specs.declared.Background.TheVariants.{YearRound, Peak}
use Rattle.meaning.specs.declared.System.{System}
use Rattle.meaning.specs.declared.System.TheVariants.{Base, Wider, Local}
use Rattle.meaning.specs.Rows.{rows}
use Rattle.meaning.specs.Editions.{system_number}
use Rattle.meaning.specs.Study.{runs_of}
use Rattle.meaning.specs.File.{edition_at, solutions, sections, section, solution_count, row_at, table, i64, run_length, runs_in, file_whole}
use Rattle.meaning.specs.Columns.{column}
use Rattle.meaning.proofs.Rows.{rows_same}
use Rattle.meaning.proofs.Frame.{sections_are}
use Rattle.meaning.proofs.Whole.{whole_file}
use Rattle.layout.specs.Readable.{section_in}
use Rattle.layout.proofs.Rows.{in_whole}
use Rattle.output.specs.declared.Run.{Run}
use Rattle.output.specs.Copied.{Copied}

-- the front of an array of rows
take_rows : {A : Type 0} (n m : ℕ) (f : ℕ → A) → n ≤ m → take n (rows m f) ≡ rows n f
unfolding rows
take_rows zero m f h = refl
take_rows (suc n) zero f h = absurd (omega arith)
take_rows (suc n) (suc m) f h = ap (λ l. f zero ∷ l) (take_rows n m (λ i. f (suc i)) (omega arith))

pub take_column : {A : Type 0} (none : A) (size count : ℕ) (f : ℕ → A) → count ≤ size → take count (column none size count f) ≡ rows count f
unfolding column
take_column none size count f h =
    take_rows count size (λ i. cond (ltb i count) (f i) none) h ∙ rows_same count _ f (λ i k. rw (lt-ltb i count k))

-- the numbers of a section, at the front of the array that they were copied to
pub cut_table : (file : List ℕ) (t : Section) {b : List ℤ} → t.count ≤ 768 → b ≡ column (pos 0) 768 t.count (λ i. i64 file (row_at t i))
    → take t.count b ≡ table (i64 file) t
cut_table file t few e = ap (take t.count) e ∙ take_column (pos 0) 768 t.count _ few

-- a solution as the code cuts it off its array
abbrev cut : Run → List ℤ
cut r = take (r.count - 0) r.numbers

copied : {file : List ℕ} {section : ℕ} {r : Run} → Copied file section r → cut r ≡ table (i64 file) (section_in file section)
copied {r = r} c = let n : r.count - 0 ≡ r.count = omega arith in rw n c.numbers

-- the five that it lends
module _ (file : List ℕ) (whole : file_whole file ≡ true) where
  -- the solution of the system of that number, empty where the edition has no such system
  solution : (n : ℕ) → 1 ≤ n
      → table (i64 file) (section_in file (3 + n)) ≡ rows (cond (leb n (solutions (edition_at file))) (solution_count file) 0) (λ i. i64 file (row_at (section file (3 + n)) i))
  unfolding section_in section rows
  solution n h = go (dec_le n (solutions (edition_at file)))
    where
      go : Dec (n ≤ solutions (edition_at file))
          → table (i64 file) (section_in file (3 + n)) ≡ rows (cond (leb n (solutions (edition_at file))) (solution_count file) 0) (λ i. i64 file (row_at (section file (3 + n)) i))
      go (yes l) =
          let inside : 3 + n < sections (edition_at file) = omega (arith, sections_are (edition_at file)) in
          let same = (whole_file file whole).solutions (3 + n) (omega arith) inside in
          rw (in_whole file (3 + n) inside whole, le-leb n (solutions (edition_at file)) l, same) refl
      go (no l) =
          let outside : sections (edition_at file) ≤ 3 + n = omega (arith, sections_are (edition_at file)) in
          rw (le-ltb (3 + n) (sections (edition_at file)) outside, lt-leb n (solutions (edition_at file)) (omega arith)) refl

  solution_of : (s : System) → table (i64 file) (section_in file (3 + system_number s)) ≡ runs_in file s
  unfolding runs_in run_length system_number
  solution_of (Base YearRound) = solution 1 (omega arith)
  solution_of (Wider YearRound) = solution 2 (omega arith)
  solution_of Local = solution 3 (omega arith)
  solution_of (Base Peak) = solution 4 (omega arith)
  solution_of (Wider Peak) = solution 5 (omega arith)

  pub runs_copied : {b w l p q : Run} → Copied file 4 b → Copied file 5 w → Copied file 6 l → Copied file 7 p → Copied file 8 q
      → runs_of (cut b) (cut w) (cut l) (cut p) (cut q) ≡ runs_in file
  unfolding system_number
  runs_copied {b} {w} {l} {p} {q} cb cw cl cp cq = λ i s. each s i
    where
      each : (s : System) → runs_of (cut b) (cut w) (cut l) (cut p) (cut q) s ≡ runs_in file s
      each (Base YearRound) = copied cb ∙ solution_of (Base YearRound)
      each (Wider YearRound) = copied cw ∙ solution_of (Wider YearRound)
      each Local = copied cl ∙ solution_of Local
      each (Base Peak) = copied cp ∙ solution_of (Base Peak)
      each (Wider Peak) = copied cq ∙ solution_of (Wider Peak)
