-- The tests of a file, from the numbers that code has read: counts, chain and what is left; and a section from its trailer.
use mathlib.Core.Path.{◌≡◌, refl, sym}
use mathlib.Core.List.{List}
use mathlib.Core.Logic.{◌≢◌}
use mathlib.Core.Bool.{and_assoc, and-true, and-false, or-false, Bool, true, false, cond, ◌&&◌}
use Prim.Native.Nat.{ℕ, zero, suc, ◌+◌, ◌*◌, ◌-◌, ◌≤◌, ◌<◌, ◌^◌}
use native.Mathlib.Nat.{add-zero, add_assoc, mul-le-mul}
use native.Mathlib.Omega.{arith}
use borrow.Author.Tests.{lt-leb, ne_eqb}
use lib.Dec.{eqb, leb}
use lib.ListN.{length}
use Rattle.std.specs.List.{list_all, range_with_len}
use Rattle.meaning.specs.declared.Edition.{Edition}
use Rattle.meaning.specs.declared.Edition.TheVariants.{First, Second}
use Rattle.meaning.specs.Rows.{◌between◌and◌, all}
use Rattle.meaning.specs.File.{u32, edition_at, solutions, sections, trailer_size, circuit_size, record_size, most_circuits, version_of, known_edition, stated_length, section_count, section_offset, section_start, section, counted, chained, file_whole}
use Rattle.meaning.proofs.Says.{says_le}
use Rattle.meaning.proofs.Whole.{whole_file}

-- numbers below 5
five : (P : ℕ → Type 0) → P 0 → P 1 → P 2 → P 3 → P 4 → (k : ℕ) → k < 5 → P k
five P a b c d e zero h = a
five P a b c d e (suc zero) h = b
five P a b c d e (suc (suc zero)) h = c
five P a b c d e (suc (suc (suc zero))) h = d
five P a b c d e (suc (suc (suc (suc zero)))) h = e
five P a b c d e (suc (suc (suc (suc (suc k))))) h = absurd (omega arith)

four : (s : ℕ) → 4 ≤ s → 4 + (s - 4) ≡ s
four s h = omega arith

-- ---- the editions by number
module _ (version : ℕ) where
  pub known_zero : (leb 1 version && leb version 2) ≡ known_edition version 0
  unfolding known_edition ◌between◌and◌
  known_zero = simp (and-true, and-false, or-false)

  pub known_two : eqb version 2 ≡ known_edition version 2
  unfolding known_edition ◌between◌and◌
  known_two = simp (and-true, and-false)

  pub known_none : (edition : ℕ) → edition ≢ 0 → edition ≢ 2 → false ≡ known_edition version edition
  unfolding known_edition ◌between◌and◌
  known_none edition h k = simp (ne_eqb edition 0 h, ne_eqb edition 2 k, and-false)

-- ---- the frame of each edition
-- the tables and three solutions are sections of both
pub sections_least : (e : Edition) → 7 ≤ sections e
sections_least First = omega arith
sections_least Second = omega arith

pub sections_most : (e : Edition) → sections e ≤ 9
sections_most First = omega arith
sections_most Second = omega arith

module _ (file : List ℕ) where
  -- the numbers of the trailer, tested one by one
  pub counted_is : (one nodes circuits most stations : ℕ) (solved : Bool) → one ≡ section_count file 0 → nodes ≡ section_count file 1 → circuits ≡ section_count file 2
      → most ≡ most_circuits (edition_at file) (version_of file) → stations ≡ section_count file 3
      → solved ≡ all (λ k. eqb (section_count file (4 + k)) (nodes + circuits)) (solutions (edition_at file))
      → (eqb one 1 && (leb 1 nodes && leb nodes 256) && leb circuits most && leb stations 512 && solved) ≡ counted file
  unfolding counted ◌between◌and◌
  counted_is one nodes circuits most stations solved o n c m k a = rw (a, o, n, c, m, k) refl

  -- what a shorter file has, and what is left to test of one that is long enough
  pub too_short : length file < 128 → false ≡ file_whole file
  unfolding file_whole
  too_short h = rw (lt-leb 128 (length file) h) refl

  pub whole_rest : (end : ℕ) (known counts follow : Bool) → 128 ≤ length file → known ≡ known_edition (version_of file) (u32 file 52) → end ≡ stated_length file
      → counts ≡ counted file → follow ≡ chained file → (known && eqb end (length file) && counts && follow) ≡ file_whole file
  unfolding file_whole
  whole_rest end known counts follow h k l c s =
      let e : leb 128 (length file) ≡ true = says_le.1 h in
      rw (k, l, c, s, e) refl

  -- ---- the chain, section by section
  pub start_zero : section_start file 0 ≡ 0
  unfolding section_start
  start_zero = refl

  start_more : (k : ℕ) → section_start file (k + 1) ≡ section_start file k + record_size (version_of file) k * section_count file k
  unfolding section_start
  start_more k = let e : k + 1 ≡ suc k = omega arith in rw e refl

circuit_small : (v : ℕ) → circuit_size v ≤ 64
unfolding circuit_size
circuit_small v = go (eqb v 2)
  where
    go : (b : Bool) → cond b 48 44 ≤ 64
    go true = omega arith
    go false = omega arith

pub record_small : (v k : ℕ) → record_size v k ≤ 64
unfolding record_size
record_small v zero = omega arith
record_small v (suc zero) = omega arith
record_small v (suc (suc zero)) = circuit_small v
record_small v (suc (suc (suc zero))) = omega arith
record_small v (suc (suc (suc (suc zero)))) = omega arith
record_small v (suc (suc (suc (suc (suc zero))))) = omega arith
record_small v (suc (suc (suc (suc (suc (suc zero)))))) = omega arith
record_small v (suc (suc (suc (suc (suc (suc (suc zero))))))) = omega arith
record_small v (suc (suc (suc (suc (suc (suc (suc (suc zero)))))))) = omega arith
record_small v (suc (suc (suc (suc (suc (suc (suc (suc (suc k))))))))) = omega arith

-- a section as the trailer has it: it starts at its offset
pub section_told : (file : List ℕ) (s offset size count : ℕ) → file_whole file ≡ true → s < sections (edition_at file) → offset ≡ section_offset file s → size ≡ record_size (version_of file) s → count ≡ section_count file s
    → record { start = offset; size = size; count = count } ≡ section file s
unfolding section
section_told file s offset size count e h o z n = rw (o, z, n, (whole_file file e).chain s h) refl

pub solution_size : (v k : ℕ) → 3 < k → k < 9 → 8 ≡ record_size v k
unfolding record_size
solution_size v k h l = rw (four k h) at (five (λ j. 8 ≡ record_size v (4 + j)) refl refl refl refl refl (k - 4) (omega arith))

-- ---- a test of numbers that follow one another, from the first and from the last
all_front : (f : ℕ → Bool) (n : ℕ) → all f (suc n) ≡ (f 0 && all (λ k. f (suc k)) n)
unfolding all
all_front f zero = sym (and-true (f 0))
all_front f (suc n) = rw (all_front f n) (and_assoc (f 0) _ _)

one_more : (k : ℕ) → suc k ≡ 1 + k
one_more k = omega arith

pub all_range : (test : ℕ → Bool) (n a : ℕ) → list_all test (range_with_len a n) ≡ all (λ k. test (a + k)) n
unfolding all
all_range test zero a = refl
all_range test (suc n) a = rw (all_range test n (a + 1), all_front (λ k. test (a + k)) n) (simp (add-zero, add_assoc, one_more))

-- ---- the chain
-- after k turns: whether the first k sections follow one another, and where the next begins
pub record ChainedTo (file : List ℕ) (k : ℕ) (follow : Bool) (start : ℕ) : Type 0 where
  pub within : k ≤ sections (edition_at file)
  pub here : start ≡ section_start file k
  pub low : start ≤ k * 274877906944
  pub so_far : follow ≡ all (λ s. eqb (section_offset file s) (section_start file s)) k

-- a section's size, so that the next start fits 64 bits
pub size_low : (v k : ℕ) {size count : ℕ} → size ≡ record_size v k → count < 2 ^ 32 → size * count ≤ 274877906944
size_low v k e h = mul-le-mul {n₂ = 64} {m₂ = 4294967296} (rw e (record_small v k)) (omega arith)

module _ {file : List ℕ} where
  pub chained_none : ChainedTo file 0 true 0
  unfolding all
  chained_none = record { within = omega arith; here = sym (start_zero file); low = omega arith; so_far = refl }

  pub chained_on : {k start offset size count : ℕ} {follow : Bool} → ChainedTo file k follow start → k < sections (edition_at file) → offset ≡ section_offset file k
      → size ≡ record_size (version_of file) k → count ≡ section_count file k → count < 2 ^ 32 → ChainedTo file (k + 1) (follow && eqb offset start) (start + size * count)
  unfolding all
  chained_on {k} t h o s n l =
      let e : k + 1 ≡ suc k = omega arith in
      record {
        within = omega arith;
        here = rw (t.here, s, n) (sym (start_more file k));
        low = omega (arith, t.low, size_low (version_of file) k s l);
        so_far = rw (e, o, t.here, t.so_far) refl;
      }

  pub chained_is : {k start trailer : ℕ} {follow : Bool} → ChainedTo file k follow start → sections (edition_at file) ≤ k → trailer ≡ trailer_size (edition_at file)
      → (follow && eqb (start + trailer) (length file)) ≡ chained file
  unfolding chained
  chained_is {k} t h e = let s : k ≡ sections (edition_at file) = omega (arith, t.within) in rw (t.so_far, t.here, s, e) refl
