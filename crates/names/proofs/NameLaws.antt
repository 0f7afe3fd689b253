-- A name field byte by byte, and names that the file's end cuts.
use mathlib.Core.Path.{◌≡◌, refl, sym, ap, ◌∙◌}
use mathlib.Core.Bool.{Bool, true, false, cond, true≢false, ◌&&◌, ◌||◌, and_assoc}
use mathlib.Core.Logic.{◌⊎◌, inl, inr}
use mathlib.Core.List.{List, [], ◌∷◌}
use Prim.Native.Nat.{ℕ, suc, ◌+◌, ◌-◌, ◌≤◌, ◌<◌, min, max}
use lib.Dec.{eqb, leb}
use lib.ListN.{length, get_or, drop, length-take, length-drop, drop_of_length-le}
use lib.Seq.{drop-cons}
use native.Mathlib.Nat.{add-zero}
use native.Mathlib.Numerals.{add-one}
use native.Mathlib.Decide.{dec_lt}
use native.Mathlib.Omega.{arith}
use borrow.Author.Tests.{ne_eqb, eqb-true, eqb-false, le-leb}
use Rattle.std.proofs.Common.{take_all, take}
use Rattle.meaning.specs.Rows.{◌between◌and◌, every}
use Rattle.meaning.specs.Name.{Name, name_byte, unpadded, well_formed, same_name}
use Rattle.meaning.specs.File.{name_at}
use Rattle.meaning.proofs.Says.{says_as, ◌also◌, ◌either◌, agree, says_eq, says_le, says_name}
use Rattle.names.specs.Padded.{padded}

-- the name at a place, from its byte k on
unfoldable pub rest : List ℕ → (at k : ℕ) → Name
rest file at k = take (12 - k) (drop (at + k) file)

module _ (file : List ℕ) (at : ℕ) where
  -- what is left of a name begins with its byte k
  pub rest_cons : (k : ℕ) → k < 12 → at + 12 ≤ length file → rest file at k ≡ get_or file (at + k) 0 ∷ rest file at (k + 1)
  unfolding rest
  rest_cons k h l =
      let e : 12 - k ≡ suc (12 - (k + 1)) = omega arith in
      let f : suc (at + k) ≡ at + (k + 1) = omega arith in
      rw (e, drop-cons file (at + k) 0 (omega arith), f)

  pub rest_none : (k : ℕ) → 12 ≤ k → rest file at k ≡ []
  unfolding rest
  rest_none k h = let e : 12 - k ≡ 0 = omega arith in rw e

  pub rest_whole : name_at file at ≡ rest file at 0
  unfolding rest name_at
  rest_whole = rw add-zero

  pub name_long : length (name_at file at) ≡ min 12 (length file - at)
  unfolding name_at
  name_long = simp (length-take, length-drop)

-- ---- a byte by itself
space_out : (b : ℕ) → eqb b 32 ≡ true → name_byte b ≡ false
unfolding name_byte ◌between◌and◌
space_out b e = rw (eqb-true b 32 e) refl

no_space : (b : ℕ) → eqb b 32 ≡ false → eqb 32 b ≡ false
no_space b e = ne_eqb 32 b (λ q. eqb-false b 32 e (sym q))

-- ---- name bytes and then spaces: the definition goes through what stands before the first space
padded_is : (l : Name) → (every name_byte (unpadded l) && every (eqb 32) (drop (length (unpadded l)) l)) ≡ padded l
unfolding padded unpadded every
padded_is [] = refl
padded_is (b ∷ l) = go (eqb b 32) refl (name_byte b) refl (padded_is l)
  where
    go : (s : Bool) → eqb b 32 ≡ s → (n : Bool) → name_byte b ≡ n
        → (every name_byte (unpadded l) && every (eqb 32) (drop (length (unpadded l)) l)) ≡ padded l
        → (every name_byte (cond s [] (b ∷ unpadded l)) && every (eqb 32) (drop (length (cond s [] (b ∷ unpadded l))) (b ∷ l)))
        ≡ cond n (padded l) (every (eqb 32) (b ∷ l))
    go true e true f p = absurd (true≢false (sym f ∙ space_out b e))
    go true e false f p = refl
    go false e true f p = rw f p
    go false e false f p = simp (f, no_space b e)

padded_head : (b : ℕ) (l : Name) → (leb 1 (length (unpadded (b ∷ l))) && padded (b ∷ l)) ≡ (name_byte b && padded l)
unfolding padded unpadded every
padded_head b l = go (eqb b 32) refl (name_byte b) refl
  where
    go : (s : Bool) → eqb b 32 ≡ s → (n : Bool) → name_byte b ≡ n
        → (leb 1 (length (cond s [] (b ∷ unpadded l))) && cond n (padded l) (every (eqb 32) (b ∷ l))) ≡ (n && padded l)
    go true e true f = absurd (true≢false (sym f ∙ space_out b e))
    go true e false f = refl
    go false e true f = simp (le-leb 1 (suc (length (unpadded l))) (omega arith))
    go false e false f = simp (le-leb 1 (suc (length (unpadded l))) (omega arith), no_space b e)

formed_cons : (b : ℕ) (l : Name) → length l ≡ 11 → well_formed (b ∷ l) ≡ (name_byte b && padded l)
unfolding well_formed
formed_cons b l h = simp (h, and_assoc, padded_is (b ∷ l), padded_head b l)

-- ---- a loop over the bytes of a name: whether only name bytes came so far, and what is left then
abbrev pub left : (named : Bool) → Name → Bool
left named l = cond named (padded l) (every (eqb 32) l)

eqb_back : (m n : ℕ) → eqb m n ≡ eqb n m
eqb_back m n = agree _ _ (says_as (says_eq {m = m} {n = n}) (sym, sym)) says_eq

left_cons : (named : Bool) (b : ℕ) (l : Name) → left named (b ∷ l) ≡ (((named && name_byte b) || eqb b 32) && left (named && name_byte b) l)
unfolding padded every
left_cons named b l = rw (eqb_back b 32) (go named (name_byte b))
  where
    go : (n t : Bool) → cond n (cond t (padded l) (eqb 32 b && every (eqb 32) l)) (eqb 32 b && every (eqb 32) l)
        ≡ (((n && t) || eqb 32 b) && left (n && t) l)
    go true true = refl
    go true false = refl
    go false t = refl

module _ (bytes : Name) (i : ℕ) where
  pub left_on : (good named named' : Bool) → i < length bytes → named' ≡ name_byte (get_or bytes i 0)
      → (good && left named (drop i bytes)) ≡ ((good && ((named && named') || eqb (get_or bytes i 0) 32)) && left (named && named') (drop (i + 1) bytes))
  left_on good named named' h e =
      rw (add-one, drop-cons bytes i 0 h, left_cons named (get_or bytes i 0) (drop (suc i) bytes), e) (sym (and_assoc good _ _))

  pub left_done : (good named : Bool) → length bytes ≤ i → (good && left named (drop i bytes)) ≡ good
  unfolding padded every
  left_done good named h = rw (drop_of_length-le bytes h) (go good named)
    where
      go : (g n : Bool) → (g && left n []) ≡ g
      go true true = refl
      go true false = refl
      go false n = refl

pub formed_is : (name : Name) → length name ≡ 12 → (name_byte (get_or name 0 0) && padded (take (length name - 1) (drop 1 name))) ≡ well_formed name
formed_is [] h = absurd (omega arith)
formed_is (b ∷ l) h = rw (take_all (length (b ∷ l) - 1) (drop 1 (b ∷ l)) (omega arith)) (sym (formed_cons b l (omega arith)))

module _ (file : List ℕ) (at : ℕ) where
  -- a name that the end cuts is not well formed
  pub formed_cut : length file < at + 12 → well_formed (name_at file at) ≡ false
  unfolding well_formed
  formed_cut h = simp (ne_eqb (length (name_at file at)) 12 (λ e. omega (arith, name_long file at)))

-- ---- two names
-- names of one length, the later cut by the end
both_past : (end a b : ℕ) → a < b → end < b + 12 → min 12 (end - a) ≡ min 12 (end - b) → end ≤ a
both_past end a b h k e = omega arith

module _ (file : List ℕ) (a b : ℕ) where
  same_past : length file ≤ a → length file ≤ b → name_at file a ≡ name_at file b
  unfolding name_at
  same_past h k = rw (drop_of_length-le file h, drop_of_length-le file k) refl

  -- where the end cuts one of two names, they are the same only at one place, or both past the end: else they differ in length
  pub same_cut : length file < max a b + 12 → (eqb a b || (leb (length file) a && leb (length file) b)) ≡ same_name (name_at file a) (name_at file b)
  same_cut h = agree _ _ (says_as (says_eq {m = a} {n = b} either (says_le {m = length file} {n = a} also says_le {m = length file} {n = b})) (there, back)) (says_name _ _)
    where
      there : (a ≡ b) ⊎ ((length file ≤ a) × (length file ≤ b)) → name_at file a ≡ name_at file b
      there (inl e) = ap (name_at file) e
      there (inr p) = same_past p.0 p.1

      back : name_at file a ≡ name_at file b → (a ≡ b) ⊎ ((length file ≤ a) × (length file ≤ b))
      back e = go (dec_lt a b) (dec_lt b a)
        where
          l : min 12 (length file - a) ≡ min 12 (length file - b)
          l = sym (name_long file a) ∙ ap length e ∙ name_long file b

          go : Dec (a < b) → Dec (b < a) → (a ≡ b) ⊎ ((length file ≤ a) × (length file ≤ b))
          go (yes p) q = let k = both_past (length file) a b p (omega arith) l in inr (k, omega arith)
          go (no p) (yes q) = let k = both_past (length file) b a q (omega arith) (sym l) in inr (omega arith, k)
          go (no p) (no q) = inl (omega arith)
