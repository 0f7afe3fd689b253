use mathlib.Core.Path.{◌≡◌, refl, sym, ◌∙◌}
use native.Mathlib.Omega.{arith}
use lib.Dec.{leb}
use lib.IntN.{nat_abs}
use Rattle.integers.proofs.Machine.{fit_back, back}
use Rattle.meaning.specs.Charging.{metres}
use Rattle.tariffs.specs.Case.{local_from}
use Rattle.tariffs.proofs.nodes.local_metres.Goals as goal

pub returns-then-within : goal.returns-then-within
unfolding local_from
returns-then-within c =
    let rounded : c.metres-metres.result.0 ≡ metres c.args.potential = simp (fit_back c.ranges.potential) at c.metres-metres.ensures in
    let near : c.within.result ≡ leb (nat_abs (metres c.args.potential)) 10000000 = rw rounded at (simp (back c.metres-metres.result.0 (omega arith)) at c.within.ensures) in
    rounded ∙ rw (sym near ∙ c.if-within.true) refl

pub returns : goal.returns
unfolding local_from
returns c =
    let rounded : c.metres-metres.result.0 ≡ metres c.args.potential = simp (fit_back c.ranges.potential) at c.metres-metres.ensures in
    let near : c.within.result ≡ leb (nat_abs (metres c.args.potential)) 10000000 = rw rounded at (simp (back c.metres-metres.result.0 (omega arith)) at c.within.ensures) in
    rw (sym near ∙ c.if-within.false) refl
