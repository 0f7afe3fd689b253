-- A name without its padding: the bytes before the first space.
use mathlib.Core.Path.{◌≡◌, refl, ap, sym, ◌∙◌}
use mathlib.Core.Bool.{true, false, not}
use native.Mathlib.Numerals.{add-one}
use native.Mathlib.Nat.{add_comm}
use native.Mathlib.Decide.{dec_le, dec_lt}
use native.Mathlib.Omega.{arith}
use borrow.Author.Tests.{lt-ltb, le-ltb}
use Rattle.std.proofs.Common.{◌==◌, ℕ, ◌+◌, ◌<◌, ◌≤◌, min, List, [], ◌∷◌, cond, eqb, unwrap_or, position, length, take}
use Rattle.std.specs.List.{position_or_len}
use lib.ListN.{length-take}
use lib.Seq.{take_all}
use Rattle.meaning.specs.Name.{unpadded}
use Rattle.lines.specs.Making.{Put}
use Rattle.lines.proofs.Making.{within}

-- by the place of the first space
unpadded_first : (name : List ℕ) → unpadded name ≡ take (position_or_len (λ b. b == 32) name) name
unfolding unpadded
unpadded_first [] = refl
unpadded_first (b ∷ bs) =
    elim (eqb b 32) as (λ t. cond t [] (b ∷ unpadded bs) ≡ take (cond (not t) (1 + position_or_len (λ b'. b' == 32) bs) 0) (b ∷ bs)) [
      | true ↦ refl
      | false ↦ rw (add_comm 1 (position_or_len (λ b'. b' == 32) bs), add-one) (ap (λ (l : List ℕ). b ∷ l) (unpadded_first bs))
    ]

-- or all of it
pub unpadded_position : (name : List ℕ) → unpadded name ≡ take (unwrap_or (position (λ b. b == 32) name) (length name)) name
unpadded_position name = go (dec_lt (position_or_len (λ b. b == 32) name) (length name))
  where
    go : Dec (position_or_len (λ b. b == 32) name < length name) → unpadded name ≡ take (unwrap_or (position (λ b. b == 32) name) (length name)) name
    go (yes l) = simp (lt-ltb _ _ l) (unpadded_first name)
    go (no l) = simp (le-ltb (position_or_len (λ b. b == 32) name) (length name) (omega arith)) (unpadded_first name ∙ take_all _ name (omega arith) ∙ sym (take_all (length name) name (omega arith)))

-- the bytes before the first space of the first 12, or all of these
module _ (name : List ℕ) (m n : ℕ) (cut : m ≡ min (length name) 12) where
  field : take m name ≡ take 12 name
  field = go (dec_le (length name) 12)
    where
      go : Dec (length name ≤ 12) → take m name ≡ take 12 name
      go (yes h) = take_all m name (omega arith) ∙ sym (take_all 12 name h)
      go (no h) = let e : m ≡ 12 = omega arith in rw e refl

  pub name_added : {old : List ℕ} {at : ℕ} {new : List ℕ} {r : ℕ} → n ≡ unwrap_or (position (λ b. b == 32) (take m name)) (length (take m name))
      → Put (length (take n (take m name))) old at (take n (take m name)) new r
      → Put 12 old at (unpadded (take 12 name)) new r
  name_added first p =
      let e = ap (λ (k : ℕ). take k (take m name)) first ∙ sym (unpadded_position (take m name)) ∙ ap unpadded field in
      within (rw e at p) (rw (unpadded_first (take 12 name)) (omega (arith, length-take {A = ℕ})))
