use mathlib.Core.Path.{◌∙◌, ap₂}
use Rattle.fields.proofs.NumberLaws.{le_cmp}
use Rattle.meaning.specs.File.{most_circuits}
use Rattle.layout.proofs.FileLaws.{counted_is}
use Rattle.layout.proofs.trailer.counted.Goals as goal

pub returns : goal.returns
returns c =
    let e = c.new.ensures in
    rw (simp (e.start, e.end, e.exhausted, le_cmp) at c.contains.ensures.value)
    (counted_is _ _ _ _ _ _ _ c.count.ensures.0 c.count-nodes.ensures.0 c.count-circuits.ensures.0
    (c.most_circuits.ensures ∙ ap₂ most_circuits c.edition.ensures c.version.ensures)
    c.count-2.ensures.0 c.solved.ensures)
