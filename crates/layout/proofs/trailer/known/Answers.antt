use mathlib.Core.Path.{sym, ◌∙◌, ap}
use native.Mathlib.Omega.{arith}
use Rattle.fields.proofs.NumberLaws.{le_cmp}
use Rattle.meaning.specs.File.{known_edition}
use Rattle.layout.proofs.FileLaws.{known_zero, known_two, known_none}
use Rattle.layout.proofs.trailer.known.Goals as goal

pub returns-in-0 : goal.returns-in-0
returns-in-0 c =
    let e = c.new.ensures in
    simp (e.start, e.end, e.exhausted, le_cmp) at c.contains.ensures.value ∙ known_zero _ ∙ sym (ap (known_edition c.args.version) c.in-0.is)

pub returns-in-2 : goal.returns-in-2
returns-in-2 c = known_two _ ∙ sym (ap (known_edition c.args.version) c.in-2.is)

pub returns-in_default : goal.returns-in_default
returns-in_default c = known_none _ _ (λ e. omega arith) (λ e. omega arith)
