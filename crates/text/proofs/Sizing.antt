-- The text of figures by what the test of their counts says, and a buffer by whether it holds a text.
use mathlib.Core.Path.{◌≡◌, refl}
use mathlib.Core.Bool.{Bool, true, false, ◌&&◌}
use mathlib.Core.List.{List, []}
use Prim.Native.Nat.{ℕ, ◌≤◌, ◌<◌}
use native.Mathlib.Omega.{arith}
use borrow.Author.Tests.{le-leb, lt-leb}
use lib.Dec.{leb}
use lib.ListN.{length}
use Rattle.meaning.proofs.Says.{Says, ◌also◌, agree, says_as, says_le}
use Rattle.meaning.specs.File.{row_at}
use Rattle.meaning.specs.declared.Section.{Section}
use Rattle.meaning.specs.declared.Figures.{Figures}
use Rattle.meaning.specs.Sheet.{sheet_text}
use Rattle.lines.specs.Making.{Put}
use Rattle.lines.proofs.Making.{whole}
use Rattle.text.specs.SheetText.{shown_in, sized, text_of, Sized}
use Rattle.text.specs.Writing.{Written, Fitted}

module _ (f : Figures) (file : List ℕ) (rows : Section) where
  pub says_sized : Says (sized f file rows) (Sized f file rows)
  unfolding sized
  says_sized =
      says_as (says_le also says_le also says_le also says_le) (
        λ t. record { generation = t.0.0.0; demand = t.0.0.1; nodes = t.0.1; inside = t.1 },
        λ s. (((s.generation, s.demand), s.nodes), s.inside),
      )

  -- of few nodes, by the other three tests
  pub sized_few : f.nodes ≤ 256 → (leb f.generation.zones 32 && leb f.demand.zones 32 && leb (row_at rows f.nodes) (length file)) ≡ sized f file rows
  sized_few few =
      agree _ _ (says_as (says_le also says_le also says_le) (
        λ t. record { generation = t.0.0; demand = t.0.1; nodes = few; inside = t.1 },
        λ s. ((s.generation, s.demand), s.inside),
      )) says_sized

  pub sized_false : (Sized f file rows → ⊥) → false ≡ sized f file rows
  sized_false n = go (sized f file rows) refl
    where
      go : (t : Bool) → sized f file rows ≡ t → false ≡ t
      go true e = absurd (n (says_sized.0 e))
      go false e = refl

  pub text_sized : sized f file rows ≡ true → text_of f file rows ≡ sheet_text (shown_in f file rows)
  unfolding text_of
  text_sized e = rw e refl

  pub text_none : sized f file rows ≡ false → text_of f file rows ≡ []
  unfolding text_of
  text_none e = rw e refl

-- a writing at the front
pub written : {v : ℕ} {t old new : List ℕ} {r : ℕ} → Put v old 0 t new r → v ≤ length old → Written t old new r
written p h = record { buffer = whole p h; answer = omega (arith, p.next) }

-- a text that is written, and one that does not fit
pub fitted_written : (t old new : List ℕ) (r : ℕ) → length t ≤ length old → Written t old new r → Fitted t old new r
fitted_written t old new r h w = record { answer = w.answer; buffer = rw (le-leb (length t) (length old) h) w.buffer }

pub fitted_short : (t old : List ℕ) (r : ℕ) → length old < length t → r ≡ length t → Fitted t old old r
fitted_short t old r h e = record { answer = e; buffer = rw (lt-leb (length t) (length old) h) refl }

pub fitted_none : (old : List ℕ) → Fitted [] old old 0
fitted_none old = record { answer = refl; buffer = rw (le-leb 0 (length old) (omega arith)) refl }
