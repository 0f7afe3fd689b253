use mathlib.Core.Path.{◌≡◌, refl, sym, ◌∙◌}
use mathlib.Core.Option.{none, some}
use Prim.Native.Nat.{◌≤◌, ◌<◌}
use native.Mathlib.Omega.{arith}
use Rattle.meaning.specs.Network.{Network}
use Rattle.meaning.specs.Systems.{limit_of}
use Rattle.numbers.specs.Numbers.{row_of}
use Rattle.numbers.proofs.Found.{AllPass, row_past}
use Rattle.meaning.specs.Rows.{failing, rows}
use Rattle.meaning.specs.Proposal.{flow, Proposed}
use Rattle.flows.specs.Flows.{net_of, net_flow, net_flows, misses_low}
use Rattle.flows.proofs.Net.{net_flows_are}
use Rattle.flows.proofs.Misses.{misses_are}
use Rattle.proposal.specs.Case.{proposed_in}
use Rattle.proposal.proofs.Stages.{numbers, nodes, low, count, number_row, node_found, nodes_even, limit_small, flows_small, numbers_small, stops_number, stops_node, stops_misses, passes_all}
use Rattle.proposal.proofs.kernel.judge_system.Goals as goal
use Rattle.proposal.proofs.kernel.judge_system.Goals.{After-first_apart-node, After-first_out_of_range-row, Else-node-n, Else-row-run, Start}

module _ (s : Start) where
  abbrev net : Network
  net = net_of s.args.n s.args.reference s.args.first.now s.args.second.now s.args.x.now s.args.run.now

  abbrev offered : Proposed
  offered = proposed_in s.args.system s.args.supply s.args.offset.now s.args.run.now

-- ---- what 8, 9 and 10 answered, over the whole network
module _ (c : After-first_out_of_range-row) where
  abbrev s8 : Start
  s8 = c.before.before

  number : c.first_out_of_range-row.result ≡ row_of (failing (numbers (net s8) (offered s8)) (count (net s8))) (count (net s8))
  number = number_row (net s8) (offered s8) _ _ _ s8.requires.based.long c.limit_of.ensures c.first_out_of_range-row.ensures

module _ (c : Else-row-run) where
  abbrev s9 : Start
  s9 = s8 c.before

  in_range_lem : (failing (numbers (net s9) (offered s9)) (count (net s9)) ≡ none) × AllPass (numbers (net s9) (offered s9)) (count (net s9))
  in_range_lem = row_past (numbers (net s9) (offered s9)) (count (net s9)) (omega (arith, number c.before))

  nets : net_flows s9.args.n s9.args.first.now s9.args.second.now s9.args.run.now ≡ rows 256 (net_flow (net s9) (flow (net s9) s9.args.run.now))
  nets = net_flows_are s9.args.n s9.args.reference s9.args.first.now s9.args.second.now s9.args.x.now s9.args.run.now (flows_small (net s9) (limit_of s9.args.system) s9.args.run.now (limit_small s9.args.system) in_range_lem.1)

  lows : misses_low s9.args.n s9.args.first.now s9.args.second.now s9.args.x.now s9.args.offset.now s9.args.run.now ≡ low (net s9) (offered s9)
  lows =
      let any = numbers_small (net s9) (limit_of s9.args.system) s9.args.run.now (limit_small s9.args.system) in_range_lem.1 s9.requires.based.long in
      misses_are s9.args.n s9.args.reference s9.args.first.now s9.args.second.now s9.args.x.now s9.args.offset.now s9.args.run.now (λ c h. record {
        from = any _;
        to = any _;
        times = s9.requires.x_small c h;
        carries = flows_small (net s9) (limit_of s9.args.system) s9.args.run.now (limit_small s9.args.system) in_range_lem.1 c h;
        less = s9.requires.offset_small c h;
      })

module _ (c : After-first_apart-node) where
  abbrev s : Start
  s = s9 c.before.before

  node : c.first_apart-node.result < s.args.n → failing (nodes (net s) (offered s)) s.args.n ≡ some c.first_apart-node.result
  node = node_found (net s) (offered s) _ _ s.args.supply s.requires.based.nodes refl (c.net_flows.ensures ∙ nets c.before.before) c.first_apart-node.ensures

  even : s.args.n ≤ c.first_apart-node.result → failing (nodes (net s) (offered s)) s.args.n ≡ none
  even = nodes_even (net s) (offered s) _ _ s.args.supply s.requires.based.nodes refl (c.net_flows.ensures ∙ nets c.before.before) c.first_apart-node.ensures

abbrev s10 : Else-node-n → Start
s10 c = s c.before

pub returns-then-row-run : goal.returns-then-row-run
returns-then-row-run c = let s = s8 c.before in stops_number (net s) (offered s) _ (number c.before) (omega arith)

pub net_flows-requires : goal.net_flows-requires
net_flows-requires c = tt

pub returns-then-node-n : goal.returns-then-node-n
returns-then-node-n c =
    let b = c.before.before.before in
    stops_node (net (s9 b)) (offered (s9 b)) (in_range_lem b).0 _ (node c.before c.if-node-n.true)

pub misses_low-requires : goal.misses_low-requires
misses_low-requires c = tt

pub returns-then-misses_low : goal.returns-then-misses_low
returns-then-misses_low c =
    let d = c.before.before in
    passes_all (net (s10 d)) (offered (s10 d)) (in_range_lem d.before.before.before).0 (even d.before d.if-node-n.false) (sym (lows d.before.before.before) ∙ sym c.misses_low.ensures ∙ c.if-misses_low.true)

pub returns : goal.returns
returns c =
    let d = c.before.before in
    stops_misses (net (s10 d)) (offered (s10 d)) (in_range_lem d.before.before.before).0 (even d.before d.if-node-n.false) (sym (lows d.before.before.before) ∙ sym c.misses_low.ensures ∙ c.if-misses_low.false)
