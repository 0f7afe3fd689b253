use mathlib.Core.Path.{◌≡◌}
use Prim.Native.Nat.{◌+◌}
use native.Mathlib.Omega.{arith}
use lib.IntN.{pos, ◌-ℤ◌}
use Rattle.integers.proofs.Machine.{Back, back, fit_back}
use Rattle.flows.specs.Flows.{number}
use Rattle.flows.proofs.Net.{carried_in, carried_small, carried_fits, netted_none, netted_more, netted_all, small_before, small_between, turned_flow}
use Rattle.flows.proofs.net_flows.Goals as goal

pub loop-c-init : goal.loop-c-init
loop-c-init c = netted_none _ _ _

pub add_at-requires : goal.add_at-requires
add_at-requires c =
    let f = carried_in c.args.n c.args.first.now c.args.second.now c.args.run.now in
    let flow-is : c.carried-flow.result ≡ f c.loop-c.c = simp (back (number c.args.run.now (c.args.n + c.loop-c.c)) c.carried-arg-1.given) at c.carried-flow.ensures in
    let bf : Back (f c.loop-c.c) = fit_back (carried_fits _) in
    simp (flow-is, bf) (small_before _ _ f (λ i. carried_small _) c.loop-c.c (omega arith) _ c.loop-c.invariant)

pub overflow_sub-flow : goal.overflow_sub-flow
overflow_sub-flow c =
    let f = carried_in c.args.n c.args.first.now c.args.second.now c.args.run.now in
    let flow-is : c.carried-flow.result ≡ f c.loop-c.c = simp (back (number c.args.run.now (c.args.n + c.loop-c.c)) c.carried-arg-1.given) at c.carried-flow.ensures in
    let bf : Back (f c.loop-c.c) = fit_back (carried_fits _) in
    simp (flow-is, bf) (turned_flow _ _ f (λ i. carried_small _) c.loop-c.c (omega arith) _ c.loop-c.invariant)

pub add_at-requires-in-loop-c : goal.add_at-requires-in-loop-c
add_at-requires-in-loop-c c =
    let f = carried_in c.args.n c.args.first.now c.args.second.now c.args.run.now in
    let flow-is : c.carried-flow.result ≡ f c.loop-c.c = simp (back (number c.args.run.now (c.args.n + c.loop-c.c)) c.carried-arg-1.given) at c.carried-flow.ensures in
    let bf : Back (f c.loop-c.c) = fit_back (carried_fits _) in
    let bt : Back (pos 0 -ℤ f c.loop-c.c) = fit_back (turned_flow _ _ f (λ i. carried_small _) c.loop-c.c (omega arith) _ c.loop-c.invariant) in
    simp (flow-is, bf, bt) (rw (simp (flow-is, bf) at c.add_at.ensures) (small_between _ _ f (λ i. carried_small _) c.loop-c.c (omega arith) _ c.loop-c.invariant))

pub loop-c-preserved : goal.loop-c-preserved
loop-c-preserved c =
    let f = carried_in c.args.n c.args.first.now c.args.second.now c.args.run.now in
    let flow-is : c.carried-flow.result ≡ f c.loop-c.c = simp (back (number c.args.run.now (c.args.n + c.loop-c.c)) c.carried-arg-1.given) at c.carried-flow.ensures in
    let bf : Back (f c.loop-c.c) = fit_back (carried_fits _) in
    let bt : Back (pos 0 -ℤ f c.loop-c.c) = fit_back (turned_flow _ _ f (λ i. carried_small _) c.loop-c.c (omega arith) _ c.loop-c.invariant) in
    rw (simp (flow-is, bf, bt) at c.add_at-in-loop-c.ensures, simp (flow-is, bf) at c.add_at.ensures) (netted_more _ _ f (λ i. carried_small _) c.loop-c.c (omega arith) _ c.loop-c.invariant)

pub returns : goal.returns
returns c = let a = c.args in
    netted_all a.n a.first.now a.second.now a.run.now c.loop-c.c _ (omega arith) c.loop-c.invariant
