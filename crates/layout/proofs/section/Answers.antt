use mathlib.Core.Path.{◌≡◌, refl, sym, ◌∙◌}
use mathlib.Core.Bool.{true}
use Prim.Native.Nat.{◌<◌}
use Rattle.meaning.specs.File.{edition_at, sections, file_whole}
use Rattle.meaning.proofs.Says.{◌also◌, says_lt, says_true}
use Rattle.layout.specs.Readable.{section_in}
use Rattle.layout.proofs.Rows.{in_whole}
use Rattle.layout.proofs.section.Goals as goal

pub returns-then-number-sections : goal.returns-then-number-sections
returns-then-number-sections c =
    let passed : let a = c.args in (a.number < sections (edition_at a.file.now)) × (file_whole a.file.now ≡ true) = (says_lt also says_true _).0 (rw (c.whole.ensures, c.sections.ensures.0) at c.if-number-sections.true) in
    c.section.ensures ∙ sym (in_whole _ _ passed.0 passed.1)

pub returns : goal.returns
unfolding section_in
returns c = rw (rw (c.whole.ensures, c.sections.ensures.0) at c.if-number-sections.false) refl
