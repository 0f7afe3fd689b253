-- A refusal's line tells the refusal: number, system and row read back from its bytes.
use mathlib.Core.Path.{◌≡◌, refl, sym, ◌∙◌, ap}
use mathlib.Core.List.{List, [], ◌∷◌}
use Prim.Native.Nat.{ℕ, suc}
use native.Mathlib.Omega.{arith}
use lib.IntN.{ℤ, pos, nat_abs}
use lib.ListN.{get_or}
use Rattle.meaning.specs.Text.{text, natural, line}
use Rattle.meaning.specs.Read.{read_natural}
use Rattle.meaning.specs.declared.Values.{Values}
use Rattle.meaning.specs.declared.Refusal.{Refusal}
use Rattle.std.specs.Prelude.{Err}
use Rattle.meaning.specs.Answers.{values}
use Rattle.meaning.specs.Outcome.{refused_fields, refused_line}
use Rattle.meaning.proofs.Table.{values_tell}
use Rattle.claims.proofs.Digits.{From, none, more, from_lower, natural_from, read_natural_lem}
use Rattle.claims.proofs.Pieces.{Fields, end, field, over, adds_line, adds_all}

-- ---- field k of the line, as a number
nth : ℕ → List (List ℕ) → ℤ
nth k fs = pos (read_natural 0 (get_or fs (suc k) []))

word : From 45 (text "refused")
word =
    more 114 (omega arith) (more 101 (omega arith) (more 102 (omega arith) (more 117 (omega arith)
    (more 115 (omega arith) (more 101 (omega arith) (more 100 (omega arith) none))))))

number : (n : ℕ) {fs : List (List ℕ)} → Fields fs → Fields (natural n ∷ fs)
number n t = field (from_lower (omega arith) (natural_from n)) t

in_line : (k : ℕ) (v : Values) → over (nth k) (line (refused_fields v)) ≡ nth k (refused_fields v)
unfolding nth read_natural refused_fields
in_line k v = adds_all (nth k) (adds_line (nth k) word (number _ (number _ (number _ end)))) refl

module _ (r : Refusal) where
  abbrev v : Values
  v = values (Err r)

  line_number : over (nth 0) (refused_line r) ≡ pos v.number
  unfolding refused_line refused_fields nth
  line_number = in_line 0 v ∙ ap pos (read_natural_lem v.number)

  line_system : over (nth 1) (refused_line r) ≡ pos v.system
  unfolding refused_line refused_fields nth
  line_system = in_line 1 v ∙ ap pos (read_natural_lem v.system)

  line_row : over (nth 2) (refused_line r) ≡ pos v.row
  unfolding refused_line refused_fields nth
  line_row = in_line 2 v ∙ ap pos (read_natural_lem v.row)

pub line_told : (q r : Refusal) → refused_line q ≡ refused_line r → q ≡ r
line_told q r e =
    values_tell q r (same (nth 0) (line_number q) (line_number r)) (same (nth 1) (line_system q) (line_system r)) (same (nth 2) (line_row q) (line_row r))
  where
    same : (F : List (List ℕ) → ℤ) {m n : ℕ} → over F (refused_line q) ≡ pos m → over F (refused_line r) ≡ pos n → m ≡ n
    same F a b = ap nat_abs (sym a ∙ ap (λ (l : List ℕ). over F l) e ∙ b)
