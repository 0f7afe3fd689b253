use mathlib.Core.Path.{sym, ◌∙◌}
use native.Mathlib.Omega.{arith}
use lib.IntN.{pos}
use lib.ListN.{get_or}
use Rattle.integers.proofs.Machine.{Back, back}
use Rattle.meaning.specs.Network.{Network}
use Rattle.numbers.specs.Numbers.{pinned}
use Rattle.numbers.proofs.Range.{flow_in_range, reference_in_range, potential_in_range}
use Rattle.numbers.proofs.number_in_range.Goals as goal
use Rattle.numbers.proofs.number_in_range.Goals.{After-z-1}

module _ (c : After-z-1) where
  abbrev net : Network
  net = pinned c.args.n c.args.reference

  bz : Back (get_or c.args.run.now c.args.i (pos 0))
  bz = back _ c.z-1.given

pub returns-then-n-i : goal.returns-then-n-i
returns-then-n-i c =
    let z = c.before.before in
    simp (bz z) at c.within.ensures ∙ sym (flow_in_range (net z) _ _ _ (omega arith))

pub returns-then-i-reference : goal.returns-then-i-reference
returns-then-i-reference c =
    let z = c.before.before.before in
    simp (bz z) at c.within-then-i-reference.ensures ∙ sym (reference_in_range (net z) _ _ _ (omega arith) (omega arith))

pub returns : goal.returns
returns c =
    let z = c.before.before.before in
    simp (bz z) at c.within-2.ensures ∙ sym (potential_in_range (net z) _ _ _ (omega arith) c.if-i-reference.false)
