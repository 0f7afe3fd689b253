-- Arrays made place by place by std's `array::from_fn`, by a closure that stays as it is, and by an array's `map`.
use mathlib.Core.Path.{◌≡◌, refl, sym, ◌∙◌}
use mathlib.Core.List.{List}
use Prim.Native.Nat.{ℕ, zero, suc, ◌+◌, ◌<◌}
use native.Mathlib.Omega.{arith}
use denote.Param.Members.{Mut}
use Rattle.std.proofs.Common.{get_or}
use Rattle.std.proofs.lemmas.List.{ext_get_or}
use Rattle.std.specs.Fn.{Called}
use Rattle.std.specs.Array.{IsFromFnResult, IsFromFnResultFrom, IsMapOf}
use Rattle.meaning.specs.Rows.{rows}
use Rattle.meaning.proofs.Rows.{rows_at, length_rows}

module _ {F B : Type 0} {g : Mut F (ℕ × Unit {0}) B} {k : F} {ys : List B} {n : ℕ} (f : ℕ → B) (made : IsFromFnResult g k ys n)
    (each : (i : ℕ) (y : B) (q : F) → i < n → Called g k (i, tt) y q → (q ≡ k) × (y ≡ f i)) where
  from : (i m : ℕ) (p : F) → i + m ≡ n → p ≡ k → IsFromFnResultFrom g p ys i m → (j : ℕ) → j < m → get_or ys (i + j) (f 0) ≡ f (i + j)
  from i zero p e h made j l = absurd (omega arith)
  from i (suc m) p e h (q, y, here, called, later) j l =
      let (stays, is) = each i y q (omega arith) (rw h at called) in
      go (from (i + 1) m q (omega arith) stays later) j l is
    where
      go : ((t : ℕ) → t < m → get_or ys (i + 1 + t) (f 0) ≡ f (i + 1 + t)) → (j : ℕ) → j < suc m → y ≡ f i → get_or ys (i + j) (f 0) ≡ f (i + j)
      go after zero l is = let z : i + 0 ≡ i = omega arith in rw z (here.1 (f 0) ∙ is)
      go after (suc t) l is = let z : i + suc t ≡ i + 1 + t = omega arith in rw z (after t (omega arith))

  -- what each call makes is the function's value
  pub made_same : ys ≡ rows n f
  made_same = ext_get_or (f 0) ys (rows n f) (made.long ∙ sym (length_rows n f)) (λ i h. here i (omega (arith, made.long)))
    where
      here : (i : ℕ) → i < n → get_or ys i (f 0) ≡ get_or (rows n f) i (f 0)
      here i l = let z : 0 + i ≡ i = omega arith in rw z at (from 0 n k (omega arith) refl made.each i l) ∙ sym (rows_at (f 0) n f i l)

-- an array that is mapped
pub mapped_rows : {F A B : Type 0} {g : Mut F (A × Unit {0}) B} {k : F} {xs : List A} {ys : List B} {n : ℕ} (none : A) (f : ℕ → B) → IsMapOf g k xs ys n
    → ((i : ℕ) (p q : F) (y : B) → i < n → Called g p (get_or xs i none, tt) y q → y ≡ f i) → ys ≡ rows n f
mapped_rows {xs = xs} {ys = ys} {n = n} none f made each = ext_get_or (f 0) ys (rows n f) (made.long ∙ sym (length_rows n f)) (λ i h. here i (omega (arith, made.long)))
  where
    here : (i : ℕ) → i < n → get_or ys i (f 0) ≡ get_or (rows n f) i (f 0)
    here i l = let (p, q, called) = made.at i none (f 0) l in each i p q _ l called ∙ sym (rows_at (f 0) n f i l)
