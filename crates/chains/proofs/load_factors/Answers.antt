use mathlib.Core.Path.{◌∙◌}
use Prim.Native.Nat.{suc, ℕ}
use native.Mathlib.Omega.{arith}
use Rattle.std.proofs.Common.{rules}
use Rattle.meaning.specs.Sharing.{load_factor}
use Rattle.meaning.proofs.Made.{made_same}
use Rattle.chains.proofs.Laws.{factors_read, factors_none}
use Rattle.chains.proofs.load_factors.Goals as goal

pub returns-then-zones-gt32 : goal.returns-then-zones-gt32
returns-then-zones-gt32 c = let a = c.args in factors_none a.share.now a.zones (omega arith)

pub returns : goal.returns
returns c =
    let a = c.args in
    made_same (λ (t : ℕ). load_factor c.args.share.now c.args.zones (suc t)) c.from_fn.ensures.items (λ i y q h k. search rules)
    ∙ factors_read a.share.now a.zones (omega arith)
