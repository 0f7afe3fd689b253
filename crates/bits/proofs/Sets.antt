-- Sets as words: what one bit more, two sets together, the ones and the trailing zeros say of the numbers in a set.
use Prim.Native.Nat.{ℕ, zero, suc, ◌+◌, ◌*◌, ◌-◌, ◌/◌, ◌%◌, ◌^◌, ◌<◌, ◌≤◌, max, min}
use mathlib.Core.Path.{◌≡◌, refl, sym, ap, ◌∙◌}
use mathlib.Core.Logic.{◌≢◌}
use mathlib.Core.List.{List, [], ◌∷◌}
use mathlib.Core.Bool.{Bool, true, false, cond, not, true≢false, ◌&&◌, ◌||◌, or-false, and-true, and-false}
use native.Mathlib.Decide.{dec_lt, ℕ_discrete}
use native.Mathlib.Omega.{arith}
use native.Mathlib.Nat.{zero-sub}
use lib.Dec.{eqb, ltb}
use lib.Bits.{bit_or}
use lib.ListN.{length, get_or, set, get_or-eq_default}
use lib.Seq.{get_or-set_same, get_or-set_other, ext_get_or}
use borrow.Author.Tests.{eq-eqb, ne_eqb, lt-ltb, le-ltb}
use Rattle.integers.specs.Numbers.{sum, count}
use Rattle.integers.proofs.Sum.{sum_same, sum_split}
use Rattle.meaning.specs.Rows.{all}
use Rattle.meaning.specs.First.{IsFirst}
use Rattle.meaning.proofs.Says.{says_all, says_eq}
use Rattle.bits.specs.Sets.{bit, has, in_word, SetOf}
use Rattle.bits.specs.Words.{Lowest}
use Rattle.bits.proofs.Bits.{bit-lt, bit_none, bit-or, bit_pow_same, bit_pow_other, bits_same}

-- ---- words past the last
past : (words : List ℕ) (i k : ℕ) → length words ≤ i → bit (get_or words i 0) k ≡ 0
past words i k h = rw (get_or-eq_default words 0 h) (bit_none k)

pub has_past : (words : List ℕ) (n : ℕ) → 64 * length words ≤ n → has words n ≡ false
unfolding has
has_past words n h = rw (past words (n / 64) (n % 64) (omega arith)) refl

-- ---- two sets, word by word
module _ (op : ℕ → ℕ → ℕ) (g : Bool → Bool → Bool) (none : op 0 0 ≡ 0) (says : (x y : ℕ) → x < 2 → y < 2 → eqb (op x y) 1 ≡ g (eqb x 1) (eqb y 1)) where
  pub by_words : (a b r : List ℕ) → length a ≡ 4 → length b ≡ 4 → length r ≡ 4
      → ((i k : ℕ) → i < 4 → bit (get_or r i 0) k ≡ op (bit (get_or a i 0) k) (bit (get_or b i 0) k))
      → SetOf r (λ m. g (has a m) (has b m))
  unfolding has
  by_words a b r la lb lr e m = ap (λ (x : ℕ). eqb x 1) (word (dec_lt (m / 64) 4)) ∙ says _ _ (bit-lt _ _) (bit-lt _ _)
    where
      word : Dec (m / 64 < 4) → bit (get_or r (m / 64) 0) (m % 64) ≡ op (bit (get_or a (m / 64) 0) (m % 64)) (bit (get_or b (m / 64) 0) (m % 64))
      word (yes h) = e (m / 64) (m % 64) h
      word (no h) =
          rw (past r (m / 64) (m % 64) (omega arith), past a (m / 64) (m % 64) (omega arith), past b (m / 64) (m % 64) (omega arith)) (sym none)

pub max_says : (x y : ℕ) → x < 2 → y < 2 → eqb (max x y) 1 ≡ (eqb x 1 || eqb y 1)
max_says zero zero h k = refl
max_says zero (suc zero) h k = refl
max_says (suc zero) zero h k = refl
max_says (suc zero) (suc zero) h k = refl
max_says (suc (suc x)) y h k = absurd (omega arith)
max_says zero (suc (suc y)) h k = absurd (omega arith)
max_says (suc zero) (suc (suc y)) h k = absurd (omega arith)

pub less_says : (x y : ℕ) → x < 2 → y < 2 → eqb (x - y) 1 ≡ (eqb x 1 && not (eqb y 1))
less_says zero y h k = rw (zero-sub y) refl
less_says (suc zero) zero h k = refl
less_says (suc zero) (suc zero) h k = refl
less_says (suc (suc x)) y h k = absurd (omega arith)
less_says (suc zero) (suc (suc y)) h k = absurd (omega arith)

pub without_has : (a b r : List ℕ) → length a ≡ 4 → length b ≡ 4 → length r ≡ 4
    → ((i k : ℕ) → i < 4 → bit (get_or r i 0) k ≡ bit (get_or a i 0) k - bit (get_or b i 0) k) → SetOf r (λ m. has a m && not (has b m))
without_has = by_words (λ x y. x - y) (λ x y. x && not y) refl less_says

-- ---- the numbers of one word
pub in_word_lem : (w word n : ℕ) → n / 64 ≡ w → eqb (bit word (n % 64)) 1 ≡ in_word w word n
unfolding in_word
in_word_lem w word n q = rw (eq-eqb (n / 64) w q) refl

pub in_other : (w word n : ℕ) → n / 64 ≢ w → eqb (n / 64) w ≡ in_word w word n
unfolding in_word
in_other w word n q = rw (ne_eqb (n / 64) w q) refl

-- word w of a set holds the numbers of the set that stand there
pub word_has : (words : List ℕ) (w n : ℕ) → in_word w (get_or words w 0) n ≡ (eqb (n / 64) w && has words n)
unfolding in_word has
word_has words w n = go (ℕ_discrete (n / 64) w)
  where
    go : Dec (n / 64 ≡ w) → (eqb (n / 64) w && eqb (bit (get_or words w 0) (n % 64)) 1) ≡ (eqb (n / 64) w && eqb (bit (get_or words (n / 64) 0) (n % 64)) 1)
    go (yes q) = rw q refl
    go (no q) = rw (ne_eqb (n / 64) w q) refl

pub own_word : (words : List ℕ) (n : ℕ) → in_word (n / 64) (get_or words (n / 64) 0) n ≡ has words n
own_word words n = word_has words (n / 64) n ∙ rw (eq-eqb (n / 64) (n / 64) refl) refl

-- word w of one set without another
pub word_less : (a b : List ℕ) (w word : ℕ) → ((k : ℕ) → bit word k ≡ bit (get_or a w 0) k - bit (get_or b w 0) k) → (m : ℕ) → in_word w word m ≡ (eqb (m / 64) w && (has a m && not (has b m)))
unfolding in_word has
word_less a b w word e m = go (ℕ_discrete (m / 64) w)
  where
    go : Dec (m / 64 ≡ w) → (eqb (m / 64) w && eqb (bit word (m % 64)) 1) ≡ (eqb (m / 64) w && (eqb (bit (get_or a (m / 64) 0) (m % 64)) 1 && not (eqb (bit (get_or b (m / 64) 0) (m % 64)) 1)))
    go (yes q) = rw (q, eq-eqb w w refl, e (m % 64)) (less_says _ _ (bit-lt _ _) (bit-lt _ _))
    go (no q) = rw (ne_eqb (m / 64) w q) refl

pub word_past : (a b : List ℕ) (w : ℕ) → length a ≡ 4 → 4 ≤ w → (m : ℕ) → in_word w 0 m ≡ (eqb (m / 64) w && (has a m && not (has b m)))
unfolding in_word
word_past a b w l h m = go (ℕ_discrete (m / 64) w)
  where
    go : Dec (m / 64 ≡ w) → (eqb (m / 64) w && eqb (bit 0 (m % 64)) 1) ≡ (eqb (m / 64) w && (has a m && not (has b m)))
    go (yes q) = rw (bit_none (m % 64), has_past a m (omega arith)) refl
    go (no q) = rw (ne_eqb (m / 64) w q) refl

pub with_word_has : (words : List ℕ) (w word : ℕ) → length words ≡ 4 → w < 4
    → SetOf (set words w (bit_or (get_or words w 0) word)) (λ m. has words m || (ltb w 4 && in_word w word m))
unfolding in_word has
with_word_has words w word l h m = go (ℕ_discrete (m / 64) w)
  where
    new : ℕ
    new = bit_or (get_or words w 0) word

    go : Dec (m / 64 ≡ w)
        → eqb (bit (get_or (set words w new) (m / 64) 0) (m % 64)) 1 ≡ (eqb (bit (get_or words (m / 64) 0) (m % 64)) 1 || (ltb w 4 && (eqb (m / 64) w && eqb (bit word (m % 64)) 1)))
    go (yes q) =
        rw (q, eq-eqb w w refl, lt-ltb w 4 h, get_or-set_same words w new 0 (omega arith), bit-or (get_or words w 0) word (m % 64))
        (max_says _ _ (bit-lt _ _) (bit-lt _ _))
    go (no q) = rw (ne_eqb (m / 64) w q, get_or-set_other words w (m / 64) new 0 q, and-false (ltb w 4)) (sym (or-false _))

pub with_word_none : (words : List ℕ) (w word : ℕ) → 4 ≤ w → SetOf words (λ m. has words m || (ltb w 4 && in_word w word m))
with_word_none words w word h m = rw (le-ltb w 4 h) (sym (or-false _))

-- one bit of it is one number
pub one_bit : (n m : ℕ) → (ltb (n / 64) 4 && in_word (n / 64) (2 ^ (n % 64)) m) ≡ (eqb m n && ltb m 256)
unfolding in_word
one_bit n m = go (ℕ_discrete m n) (ℕ_discrete (m / 64) (n / 64))
  where
    low : Dec (n < 256) → ltb (n / 64) 4 ≡ ltb n 256
    low (yes h) = rw (lt-ltb n 256 h) (lt-ltb (n / 64) 4 (omega arith))
    low (no h) = rw (le-ltb n 256 (omega arith)) (le-ltb (n / 64) 4 (omega arith))

    go : Dec (m ≡ n) → Dec (m / 64 ≡ n / 64)
        → (ltb (n / 64) 4 && (eqb (m / 64) (n / 64) && eqb (bit (2 ^ (n % 64)) (m % 64)) 1)) ≡ (eqb m n && ltb m 256)
    go (yes q) d =
        rw (q, eq-eqb n n refl, eq-eqb (n / 64) (n / 64) refl, bit_pow_same (n % 64)) (and-true (ltb (n / 64) 4) ∙ low (dec_lt n 256))
    go (no q) (no d) = rw (ne_eqb m n q, ne_eqb (m / 64) (n / 64) d) (and-false (ltb (n / 64) 4))
    go (no q) (yes d) =
        rw (ne_eqb m n q, eq-eqb (m / 64) (n / 64) d, bit_pow_other (n % 64) (m % 64) (λ e. q (omega (arith, d, e))))
        (and-false (ltb (n / 64) 4))

-- a number past the limit adds nothing, and one below two limits is added by either
pub with_none : (words : List ℕ) (n limit : ℕ) → limit ≤ n → SetOf words (λ m. has words m || (eqb m n && ltb m limit))
with_none words n limit h m = go (ℕ_discrete m n)
  where
    go : Dec (m ≡ n) → has words m ≡ (has words m || (eqb m n && ltb m limit))
    go (yes q) = rw (q, eq-eqb n n refl, le-ltb n limit h) (sym (or-false _))
    go (no q) = rw (ne_eqb m n q) (sym (or-false _))

pub with_within : (words more : List ℕ) (n limit other : ℕ) → n < limit → n < other → SetOf more (λ m. has words m || (eqb m n && ltb m limit))
    → SetOf more (λ m. has words m || (eqb m n && ltb m other))
with_within words more n limit other h k holds m = holds m ∙ go (ℕ_discrete m n)
  where
    go : Dec (m ≡ n) → (has words m || (eqb m n && ltb m limit)) ≡ (has words m || (eqb m n && ltb m other))
    go (yes q) = rw (q, eq-eqb n n refl, lt-ltb n limit h, lt-ltb n other k) refl
    go (no q) = rw (ne_eqb m n q) refl

-- four words of 0 hold nothing
pub empty_has : (m : ℕ) → has (0 ∷ 0 ∷ 0 ∷ 0 ∷ []) m ≡ false
unfolding has
empty_has m = go (m / 64)
  where
    go : (i : ℕ) → eqb (bit (get_or (0 ∷ 0 ∷ 0 ∷ 0 ∷ []) i 0) (m % 64)) 1 ≡ false
    go zero = rw (bit_none (m % 64)) refl
    go (suc zero) = rw (bit_none (m % 64)) refl
    go (suc (suc zero)) = rw (bit_none (m % 64)) refl
    go (suc (suc (suc zero))) = rw (bit_none (m % 64)) refl
    go (suc (suc (suc (suc i)))) = rw (bit_none (m % 64)) refl

-- ---- how many
module _ (words : List ℕ) where
  -- the numbers of word i
  part : (i : ℕ) → sum 64 (bit (get_or words i 0)) ≡ sum 64 (λ k. cond (has words (64 * i + k)) 1 0)
  unfolding has
  part i = sum_same 64 _ _ (λ k h. one k h)
    where
      back : (x : ℕ) → x < 2 → x ≡ cond (eqb x 1) 1 0
      back zero h = refl
      back (suc zero) h = refl
      back (suc (suc x)) h = absurd (omega arith)

      one : (k : ℕ) → k < 64 → bit (get_or words i 0) k ≡ cond (has words (64 * i + k)) 1 0
      one k h =
          let q : (64 * i + k) / 64 ≡ i = omega arith in
          let r : (64 * i + k) % 64 ≡ k = omega arith in
          rw (q, r) (back _ (bit-lt (get_or words i 0) k))

  pub size_is : sum 64 (bit (get_or words 0 0)) + sum 64 (bit (get_or words 1 0)) + sum 64 (bit (get_or words 2 0)) + sum 64 (bit (get_or words 3 0)) ≡ count (has words) 256
  unfolding count has sum
  size_is = rw (part 0, part 1, part 2, part 3) (sym (sum_split 192 64 f ∙ ap (λ (s : ℕ). s + sum 64 (λ k. f (192 + k))) (sum_split 128 64 f ∙ ap (λ (s : ℕ). s + sum 64 (λ k. f (128 + k))) (sum_split 64 64 f))))
    where
      f : ℕ → ℕ
      f m = cond (has words m) 1 0

-- ---- the lowest
pub record NoneIn (words : List ℕ) (i : ℕ) : Type 0 where
  pub none : (m : ℕ) → m < 64 * i → has words m ≡ false

pub none_more : {words : List ℕ} {i : ℕ} → NoneIn words i → get_or words i 0 ≡ 0 → NoneIn words (i + 1)
unfolding has
none_more {words} {i} all e = record { none = λ m h. go m h (dec_lt m (64 * i)) }
  where
    go : (m : ℕ) → m < 64 * (i + 1) → Dec (m < 64 * i) → has words m ≡ false
    go m h (yes l) = all.none m l
    go m h (no l) = let q : m / 64 ≡ i = omega arith in rw (q, e, bit_none (m % 64)) refl

pub lowest_here : {words : List ℕ} {i k : ℕ} → i < 4 → NoneIn words i → Lowest (get_or words i 0) k → IsFirst (has words) 256 (64 * i + k)
unfolding has
lowest_here {words} {i} {k} l all low =
    record {
      within = omega (arith, low.within);
      before = λ m h. before m h (dec_lt m (64 * i));
      here = λ _. let q : (64 * i + k) / 64 ≡ i = omega (arith, low.within) in let r : (64 * i + k) % 64 ≡ k = omega (arith, low.within) in rw (q, r, low.is_one) refl;
    }
  where
    before : (m : ℕ) → m < 64 * i + k → Dec (m < 64 * i) → has words m ≡ false
    before m h (yes g) = all.none m g
    before m h (no g) = let q : m / 64 ≡ i = omega (arith, low.within) in rw (q, low.below (m % 64) (omega (arith, low.within))) refl

pub lowest_none : {words : List ℕ} → NoneIn words 4 → IsFirst (has words) 256 256
lowest_none all = record { within = omega arith; before = λ m h. all.none m (omega arith); here = λ h. absurd (omega arith) }

-- ---- all numbers below 256, and what is missing
abbrev pub full : List ℕ
full = 18446744073709551615 ∷ 18446744073709551615 ∷ 18446744073709551615 ∷ 18446744073709551615 ∷ []

ones_all : (k : ℕ) → k < 64 → bit 18446744073709551615 k ≡ 1
unfolding bit all
ones_all k h = (says_all {P = λ j. 18446744073709551615 / 2 ^ j % 2 ≡ 1} 64 (λ j. says_eq)).0 checked k h
  where
    checked : all (λ j. eqb (18446744073709551615 / 2 ^ j % 2) 1) 64 ≡ true
    checked = refl

full_has : (m : ℕ) → m < 256 → has full m ≡ true
unfolding has
full_has m h = go (m / 64) (omega arith)
  where
    go : (i : ℕ) → i < 4 → eqb (bit (get_or full i 0) (m % 64)) 1 ≡ true
    go zero l = rw (ones_all (m % 64) (omega arith)) refl
    go (suc zero) l = rw (ones_all (m % 64) (omega arith)) refl
    go (suc (suc zero)) l = rw (ones_all (m % 64) (omega arith)) refl
    go (suc (suc (suc zero))) l = rw (ones_all (m % 64) (omega arith)) refl
    go (suc (suc (suc (suc i)))) l = absurd (omega arith)

module _ (words missing : List ℕ) (l : length words ≡ 4) (holds : SetOf missing (λ m. has full m && not (has words m))) where
  among : (m : ℕ) → m < 256 → has missing m ≡ not (has words m)
  among m h = holds m ∙ rw (full_has m h) refl

  before : {v : ℕ} → IsFirst (has missing) 256 v → (j : ℕ) → j < v → not (has words j) ≡ false
  before f j h = sym (among j (omega (arith, f.within))) ∙ f.before j h

  pub missing_least : {v n r : ℕ} → IsFirst (has missing) 256 v → r ≡ min v n → IsFirst (λ m. not (has words m)) n r
  missing_least {v} {n} {r} f e = record { within = omega arith; before = λ j h. before f j (omega arith); here = λ k. let q : r ≡ v = omega arith in rw q (here (dec_lt v 256)) }
    where
      here : Dec (v < 256) → not (has words v) ≡ true
      here (yes g) = sym (among v g) ∙ f.here g
      here (no g) = rw (has_past words v (omega arith)) refl

-- ---- a set is what it holds: of four words of 64 bits no two hold the same numbers
abbrev pub Words : List ℕ → Type 0
Words words = (length words ≡ 4) × ((i : ℕ) → get_or words i 0 < 2 ^ 64)

pub one_set : (a b : List ℕ) → Words a → Words b → SetOf a (has b) → a ≡ b
unfolding has
one_set a b wa wb h = ext_get_or 0 a b (wa.0 ∙ sym wb.0) (λ i l. bits_same 64 (get_or a i 0) (get_or b i 0) (wa.1 i) (wb.1 i) (λ k g. same i k g))
  where
    back : (x y : ℕ) → x < 2 → y < 2 → eqb x 1 ≡ eqb y 1 → x ≡ y
    back zero zero p q e = refl
    back (suc zero) (suc zero) p q e = refl
    back zero (suc zero) p q e = absurd (true≢false (sym e))
    back (suc zero) zero p q e = absurd (true≢false e)
    back (suc (suc x)) y p q e = absurd (omega arith)
    back zero (suc (suc y)) p q e = absurd (omega arith)
    back (suc zero) (suc (suc y)) p q e = absurd (omega arith)

    same : (i k : ℕ) → k < 64 → bit (get_or a i 0) k ≡ bit (get_or b i 0) k
    same i k g =
        let q : (64 * i + k) / 64 ≡ i = omega arith in
        let r : (64 * i + k) % 64 ≡ k = omega arith in
        back _ _ (bit-lt _ _) (bit-lt _ _) (rw (q, r) at (h (64 * i + k)))
