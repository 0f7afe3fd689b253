-- Arrays made of another's elements by std's `map`.
use mathlib.Core.Path.{◌≡◌, sym, ◌∙◌}
use mathlib.Core.List.{List}
use Prim.Native.Nat.{ℕ, ◌<◌}
use native.Mathlib.Omega.{arith}
use denote.Param.Members.{Mut}
use Rattle.std.proofs.Common.{get_or}
use Rattle.std.proofs.lemmas.List.{ext_get_or}
use Rattle.std.specs.Fn.{Called}
use Rattle.std.specs.Array.{IsMapOf}
use Rattle.meaning.specs.Columns.{column}
use Rattle.meaning.proofs.Columns.{column_at, column_length}

-- each element's is the function's value at its place
pub mapped_column : {F A B : Type 0} {g : Mut F (A × Unit {0}) B} {k : F} {xs : List A} {ys : List B} {n : ℕ} (nothing : B) (d : A) (f : ℕ → B) → IsMapOf g k xs ys n
    → ((i : ℕ) (p q : F) (y : B) → i < n → Called g p (get_or xs i d, tt) y q → y ≡ f i)
    → ys ≡ column nothing n n f
mapped_column {F} {A} {B} {g} {k} {xs} {ys} {n} nothing d f made each =
    ext_get_or nothing ys (column nothing n n f) (made.long ∙ sym (column_length nothing n f n)) (λ i h. here i (omega (arith, made.long)))
  where
    here : (i : ℕ) → i < n → get_or ys i nothing ≡ get_or (column nothing n n f) i nothing
    here i l = let (p, q, called) = made.at i d nothing l in each i p q _ l called ∙ sym (column_at nothing n f nothing n i l l)
