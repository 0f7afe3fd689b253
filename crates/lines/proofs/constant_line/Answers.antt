use mathlib.Core.Path.{ap}
use native.Mathlib.Omega.{arith}
use Rattle.integers.proofs.Machine.{back}
use Rattle.meaning.specs.declared.Edition.{Edition}
use Rattle.meaning.specs.Text.{line}
use Rattle.meaning.specs.Sheet.{constant_numbers, constant_fields}
use Rattle.lines.proofs.Numbers.{ends_spaced}
use Rattle.lines.proofs.constant_line.Goals as goal

pub returns-in-First : goal.returns-in-First
unfolding constant_fields line
returns-in-First c =
    let a = c.args in
    rw (ap (λ (e : Edition). constant_numbers e a.c.0 a.peak_c.0) c.in-First.is, ends_spaced)
    (rw (back a.c.0 (omega arith)) at c.numbered.ensures)

pub returns-in-Second : goal.returns-in-Second
unfolding constant_fields line
returns-in-Second c =
    let a = c.args in
    rw (ap (λ (e : Edition). constant_numbers e a.c.0 a.peak_c.0) c.in-Second.is, ends_spaced)
    (rw (back a.peak_c.0 (omega arith), back a.c.0 (omega arith)) at c.numbered-in-Second.ensures)
