use mathlib.Core.Path.{ap}
use mathlib.Core.List.{[], ◌∷◌}
use native.Mathlib.Omega.{arith}
use Rattle.integers.proofs.Machine.{back}
use Rattle.meaning.specs.declared.Form.{Form}
use Rattle.meaning.specs.Sheet.{wider_then}
use Rattle.lines.specs.Making.{told}
use Rattle.lines.proofs.Making.{both, longer}
use Rattle.lines.proofs.Numbers.{spaced_both}
use Rattle.lines.proofs.push_figures.Goals as goal

pub returns-in-OneBackground : goal.returns-in-OneBackground
unfolding told
returns-in-OneBackground c = rw (ap (λ (f : Form). told f c.args.z) c.in-OneBackground.is) (longer c.push_wider.ensures (omega arith))

pub returns-in-TwoBackgrounds : goal.returns-in-TwoBackgrounds
unfolding told
returns-in-TwoBackgrounds c =
    let z = c.args.z in
    let both_in = both c.push_wider-in-TwoBackgrounds.ensures c.push_wider-in-TwoBackgrounds-2.ensures in
    rw (ap (λ (f : Form). told f z) c.in-TwoBackgrounds.is, spaced_both (wider_then z.peak []) (wider_then z.year_round [])) (longer both_in (omega arith))

pub returns-in-Sharing : goal.returns-in-Sharing
unfolding told
returns-in-Sharing c =
    let z = c.args.z in
    let s = z.shared in
    let shared = rw (back s.metres.0 (omega arith), back s.tariff.0 (omega arith)) at c.push_numbers.ensures in
    let all_in = both c.push_wider-in-Sharing.ensures (both c.push_wider-in-Sharing-2.ensures shared) in
    rw (
      ap (λ (f : Form). told f z) c.in-Sharing.is,
      spaced_both (wider_then z.peak []) (wider_then z.year_round (s.metres.0 ∷ s.tariff.0 ∷ [])),
      spaced_both (wider_then z.year_round []) (s.metres.0 ∷ s.tariff.0 ∷ []),
    ) all_in
