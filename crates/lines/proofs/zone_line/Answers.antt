-- By the case of the zone.
use mathlib.Core.List.{[], ◌∷◌}
use native.Mathlib.Omega.{arith}
use Rattle.integers.proofs.Machine.{back}
use Rattle.lines.specs.Making.{told}
use Rattle.lines.proofs.Making.{both, longer}
use Rattle.lines.proofs.Numbers.{spaced_both, ends_spaced, zone_numbers_told}
use Rattle.lines.proofs.Lined.{zone_dash, zone_full}
use Rattle.lines.proofs.zone_line.Goals as goal

pub returns-then-z-eq0 : goal.returns-then-z-eq0
returns-then-z-eq0 c =
    let a = c.args in
    rw (zone_dash a.form a.side a.zone a.residual.0 a.z c.if-z-eq0.true)
    (longer (both (both c.letter_of-line.ensures c.push_count.ensures) c.push_word.ensures) (omega arith))

pub returns : goal.returns
returns c =
    let a = c.args in
    let r = a.residual.0 in
    let t = a.z.total.0 in
    let last = rw (back r (omega arith), back t (omega arith)) at c.push_numbers.ensures in
    let numbers = both (both c.push_figures.ensures last) c.push.ensures in
    rw (zone_full a.form a.side a.zone r a.z c.if-z-eq0.false, zone_numbers_told a.form r a.z, ends_spaced, spaced_both (told a.form a.z) (r ∷ t ∷ []))
    (longer (both (both c.letter_of-line.ensures c.push_count.ensures) numbers) (omega arith))
