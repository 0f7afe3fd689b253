-- Texts written at a place, and lines made from them.
use Rattle.std.specs.Prelude.{ℕ, ◌+◌, ◌≤◌, ◌≡◌, ℤ, List, [], ◌∷◌, ◌++◌, length, replicate}
use Rattle.std.proofs.lemmas.List.Edits.{sets}
use Rattle.meaning.specs.declared.Form.{Form}
use Rattle.meaning.specs.declared.Form.TheVariants.{OneBackground, TwoBackgrounds, Sharing}
use Rattle.meaning.specs.declared.ZoneFigures.{ZoneFigures}
use Rattle.meaning.specs.Text.{text, decimal}
use Rattle.meaning.specs.Sheet.{wider_then}
use Rattle.lines.specs.declared.Line.{Line}

-- a text of at most `most` bytes was written at `at`, nothing else changed, and r is the place after it
pub record Put (most : ℕ) (old : List ℕ) (at : ℕ) (text : List ℕ) (new : List ℕ) (r : ℕ) : Type 0 where
  pub list : new ≡ sets old at text
  pub next : r ≡ at + length text
  pub short : length text ≤ most

-- the second line is the first with the text more
abbrev pub Adds : (most : ℕ) → Line → List ℕ → Line → Type 0
Adds most line text longer = Put most line.bytes line.len text longer.bytes longer.len

-- room for any line, and the bytes of a line with no text
abbrev pub width : ℕ
width = 240

unfoldable pub zeros : List ℕ
zeros = replicate width 0

-- the line is the text, with zeros behind it
abbrev pub Holds : (most : ℕ) → List ℕ → Line → Type 0
Holds most text line = Put most zeros 0 text line.bytes line.len

-- ---- numbers of a line, each behind a space
unfoldable pub spaced : List ℤ → List ℕ
spaced [] = []
spaced (z ∷ zs) = (text " " ++ decimal z) ++ spaced zs

-- those of a zone before residual and total
unfoldable pub told : Form → ZoneFigures → List ℤ
told OneBackground z = wider_then z.year_round []
told TwoBackgrounds z = wider_then z.peak (wider_then z.year_round [])
told Sharing z = wider_then z.peak (wider_then z.year_round (z.shared.metres.0 ∷ z.shared.tariff.0 ∷ []))
