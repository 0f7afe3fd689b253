use mathlib.Core.Path.{◌∙◌, ap₂}
use native.Mathlib.Omega.{arith}
use Rattle.meaning.specs.File.{known_edition, stated_length}
use Rattle.layout.proofs.FileLaws.{too_short, whole_rest}
use Rattle.layout.proofs.whole.Goals as goal

pub returns-then-file-lt128 : goal.returns-then-file-lt128
returns-then-file-lt128 c = too_short _ (omega arith)

pub returns : goal.returns
unfolding stated_length
returns c =
    whole_rest _ _ _ _ _ (omega arith) (c.known.ensures ∙ ap₂ known_edition c.version.ensures c.u32_at.ensures.value) c.u32_at-2.ensures.value
    c.counted.ensures c.chained.ensures
