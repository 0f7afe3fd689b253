use mathlib.Core.Path.{refl, ◌∙◌}
use Prim.Native.Nat.{ℕ}
use native.Mathlib.Omega.{arith}
use lib.Dec.{eqb}
use Rattle.std.proofs.Common.{rules, tests}
use Rattle.std.proofs.lemmas.Iterator.{YieldsList-from_range}
use Rattle.std.proofs.lemmas.Iterator.Search.{all_from_yields_List}
use Rattle.meaning.specs.File.{edition_at, solutions, section_count}
use Rattle.meaning.proofs.Frame.{sections_are}
use Rattle.layout.proofs.FileLaws.{all_range}
use Rattle.layout.proofs.trailer.solved.Goals as goal

pub returns : goal.returns
returns c =
    let a = c.args in
    let test = λ (k : ℕ). eqb (section_count a.file.now k) a.numbers in
    let n = solutions (edition_at a.file.now) in
    all_from_yields_List test _ _ c.all.result c.all.ensures.ran (YieldsList-from_range 4 c.sections.result n refl (omega (arith, c.sections.ensures.0, sections_are (edition_at a.file.now)))) (λ x b q k. search (rules, tests))
    ∙ all_range test n 4
