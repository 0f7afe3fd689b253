-- Writings one after the other, and texts taken byte by byte.
use Prim.Native.Nat.{ℕ, suc, ◌+◌, ◌-◌, ◌≤◌}
use mathlib.Core.Path.{◌≡◌, refl, sym, ap, ◌∙◌}
use mathlib.Core.List.{List, [], ◌∷◌, ◌++◌, append_assoc}
use native.Mathlib.Nat.{add-zero, zero-add, add-suc, suc-add}
use native.Mathlib.Omega.{arith}
use lib.ListN.{length, set, take, drop, length-append}
use lib.Seq.{drop-drop, sets, sets-eq, length-sets, take-append_seam}
use borrow.Rule.Slice.PartMut.{put_mid}
use Rattle.meaning.specs.Rows.{joined}
use Rattle.meaning.proofs.Rows.{joined_none, joined_more}
use Rattle.lines.specs.declared.Line.{Line}
use Rattle.lines.specs.Making.{Put, Holds, width, zeros}

module _ {ℓ} {A : Type ℓ} where
  -- a run of stores that is cut in two
  pub sets_append : (l : List A) (i : ℕ) (xs ys : List A) → sets l i (xs ++ ys) ≡ sets (sets l i xs) (i + length xs) ys
  sets_append l i [] ys = ap (λ (k : ℕ). sets l k ys) (sym (add-zero i))
  sets_append l i (x ∷ xs) ys =
      sets_append (set l i x) (suc i) xs ys
      ∙ ap (λ (k : ℕ). sets (sets (set l i x) (suc i) xs) k ys) (suc-add i (length xs) ∙ sym (add-suc i (length xs)))

-- two writings, the second where the first ended
pub both : {v w : ℕ} {old mid new : List ℕ} {at m r : ℕ} {t u : List ℕ} → Put v old at t mid m → Put w mid m u new r → Put (v + w) old at (t ++ u) new r
both {v} {w} {old} {mid} {new} {at} {m} {r} {t} {u} p q =
    record {
      list =
          q.list ∙ ap (λ (l : List ℕ). sets l m u) p.list ∙ ap (λ (k : ℕ). sets (sets old at t) k u) p.next
          ∙ sym (sets_append old at t u);
      next = q.next ∙ ap (λ (k : ℕ). k + length u) p.next ∙ omega (arith, length-append t u);
      short = omega (arith, length-append t u, p.short, q.short);
    }

-- nothing is written
pub put_none : (old : List ℕ) (at : ℕ) → Put 0 old at [] old at
put_none old at = record { list = refl; next = sym (add-zero at); short = omega arith }

-- a bound that is higher, or that is known otherwise
pub within : {v w : ℕ} {old : List ℕ} {at : ℕ} {t new : List ℕ} {r : ℕ} → Put v old at t new r → length t ≤ w → Put w old at t new r
within p h = record { list = p.list; next = p.next; short = h }

pub longer : {v w : ℕ} {old : List ℕ} {at : ℕ} {t new : List ℕ} {r : ℕ} → Put v old at t new r → v ≤ w → Put w old at t new r
longer p h = within p (omega (arith, p.short, h))

-- a writing keeps the length
pub kept : {v : ℕ} {old : List ℕ} {at : ℕ} {t new : List ℕ} {r : ℕ} → Put v old at t new r → length new ≡ length old
kept {v} {old} {at} {t} p = ap length p.list ∙ length-sets old at t

-- a loop that writes text after text: none yet, and the next
pub rows_start : (old : List ℕ) (from : ℕ) (f : ℕ → List ℕ) → Put 0 old from (joined 0 f) old from
rows_start old from f = rw (joined_none f) (put_none old from)

pub rows_more : {n w : ℕ} {old : List ℕ} {from : ℕ} (f : ℕ → List ℕ) (k : ℕ) {out : List ℕ} {at : ℕ} {new : List ℕ} {r : ℕ} → Put n old from (joined k f) out at
    → Put w out at (f k) new r
    → Put (n + w) old from (joined (k + 1) f) new r
rows_more f k p q = rw (joined_more k f) (both p q)

-- a text copied over a part
pub put_word : (old : List ℕ) (at : ℕ) (t : List ℕ) {part : List ℕ} → part ≡ t → at + length t ≤ length old
    → Put (length t) old at t (put_mid at (at + length t - at) old part) (at + length t)
put_word old at t {part} e h =
    let k : at + length t - at ≡ length t = omega arith in
    record { list = rw (e, k, drop-drop, ← append_assoc) (sym (sets-eq t old at h)); next = refl; short = omega arith }

-- a text at the front of a buffer, by what stands behind it, and as its first part
module _ {v : ℕ} {old t new : List ℕ} {r : ℕ} (p : Put v old 0 t new r) (h : v ≤ length old) where
  pub whole : new ≡ t ++ drop (length t) old
  whole = p.list ∙ rw zero-add at (sets-eq t old 0 (omega (arith, p.short, h)))

  pub front : take r new ≡ t
  front =
      let e : r ≡ length t = omega (arith, p.next) in
      rw (e, whole) (take-append_seam t (drop (length t) old))

-- a line that holds a text
module _ {most : ℕ} {t : List ℕ} (l : Line) (h : Holds most t l) (fits : most ≤ width) where
  wide : length zeros ≡ width
  unfolding zeros
  wide = refl

  held_short : l.len ≤ most
  held_short = omega (arith, h.next, h.short)

  -- what a copy of it asks, where there is room for it
  pub ready : (at : ℕ) {n : ℕ} → at + most ≤ n → (l.len ≤ width) × (at + l.len ≤ n)
  ready at room = (omega (arith, held_short), omega (arith, held_short))

  -- its copy is the text's
  pub copied : {v : ℕ} {old : List ℕ} {at : ℕ} {new : List ℕ} {r : ℕ} → Put v old at (take l.len l.bytes) new r → Put most old at t new r
  copied p = within (rw (front h (omega (arith, wide, fits))) at p) h.short
