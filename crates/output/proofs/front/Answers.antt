-- `output::front` meets its contract: a front part of the buffer, or all of it.
use mathlib.Core.Path.{◌≡◌, sym, ap}
use Prim.Native.Nat.{ℕ, ◌-◌}
use native.Mathlib.Omega.{arith}
use lib.ListN.{take}
use lib.Seq.{take_all}
use Rattle.output.proofs.front.Goals as goal

pub returns-then-count-buffer : goal.returns-then-count-buffer
returns-then-count-buffer c =
    let e : c.args.count - 0 ≡ c.args.count = omega arith in
    ap (λ (n : ℕ). take n c.args.buffer.now) e

pub returns : goal.returns
returns c =
    sym (take_all c.args.count c.args.buffer.now (omega (arith, c.if-count-buffer.false)))
