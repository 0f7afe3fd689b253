use mathlib.Core.Path.{sym}
use native.Mathlib.Omega.{arith}
use lib.IntN.{◌+ℤ◌}
use lib.Seq.{set_out}
use mir.Syntax.{w64}
use mir.Val.{SFits}
use Rattle.integers.proofs.Machine.{Back, fit_back}
use Rattle.flows.specs.Flows.{number}
use Rattle.flows.proofs.Net.{add_fits}
use Rattle.flows.proofs.circuit.add_at.Goals as goal
use Rattle.flows.proofs.circuit.add_at.Goals.{Start, Then-v-lt256}

-- a node's row
module _ (c : Then-v-lt256) where
  abbrev s : Start
  s = c.before

  fits : SFits w64 (number s.args.net.now s.args.v) × SFits w64 (number s.args.net.now s.args.v +ℤ s.args.z)
  fits = add_fits s.args.net.now s.args.v s.args.z s.requires (omega arith)

  bz : Back s.args.z
  bz = fit_back s.ranges.z

  bn : Back (number s.args.net.now s.args.v)
  bn = fit_back fits.0

  bs : Back (number s.args.net.now s.args.v +ℤ s.args.z)
  bs = fit_back fits.1

pub overflow_add-net : goal.overflow_add-net
overflow_add-net c = let t = c.before in simp (bz t, bn t) (fits t).1

pub returns-then-v-lt256 : goal.returns-then-v-lt256
returns-then-v-lt256 c = let t = c.before in simp (bz t, bn t, bs t)

pub returns-else-v-lt256 : goal.returns-else-v-lt256
returns-else-v-lt256 c = sym (set_out c.args.net.now c.args.v _ (omega (arith, c.requires.long)))
