-- 8, then 9, then 10: what the chain says, by what each part found.
use mathlib.Core.Path.{◌≡◌, refl, sym, ◌∙◌, ap, ap₂}
use mathlib.Core.Bool.{Bool, true, false, not}
use mathlib.Core.List.{List}
use mathlib.Core.Option.{none, some}
use Prim.Native.Nat.{ℕ, ◌+◌, ◌≤◌, ◌<◌}
use native.Mathlib.Decide.{ℕ_discrete, dec_lt}
use native.Mathlib.Numerals.{add-one}
use native.Mathlib.Omega.{arith}
use lib.Dec.{leb}
use lib.IntN.{ℤ, pos, nat_abs}
use lib.ListN.{length, get_or-eq_default}
use Rattle.meaning.specs.declared.System.{System}
use Rattle.meaning.specs.declared.System.TheVariants.{Base, Wider, Local}
use Rattle.meaning.specs.declared.Refusal.TheVariants.{BadNumber, Unbalanced, MissesTooHigh}
use Rattle.std.specs.Prelude.{Ok, Err}
use Rattle.meaning.specs.Answers.{unless, at, ◌or_else◌}
use Rattle.meaning.specs.Rows.{failing, rows}
use Rattle.meaning.specs.Network.{Network}
use Rattle.meaning.specs.Proposal.{Proposed, potential, flow, same, number_in_range, balanced, miss_sum, range_stage, balance_stage, miss_stage, system_stage}
use Rattle.meaning.specs.Systems.{limit_of}
use Rattle.meaning.proofs.Says.{says_le}
use Rattle.meaning.proofs.Rows.{rows_at, lowest_same}
use Rattle.numbers.specs.Numbers.{even_in, pinned, row_of}
use Rattle.flows.specs.Flows.{number, net_flow}
use Rattle.numbers.proofs.Found.{AllPass, row_is, row_below, row_beyond}
use Rattle.numbers.proofs.Range.{flow_in_range, reference_in_range, potential_in_range}

-- ---- the tests of a proposal's rows
module _ (N : Network) (P : Proposed) where
  abbrev pub numbers : ℕ → Bool
  numbers = number_in_range N P.limit P.run

  abbrev pub nodes : ℕ → Bool
  nodes = balanced N P.supply (flow N P.run)

  abbrev pub low : Bool
  low = leb (miss_sum N P.offset (potential P.run) (flow N P.run)) 100000000

abbrev pub count : Network → ℕ
count N = N.nodes + N.circuits

-- ---- what was found is what the stages look for
module _ (N : Network) (P : Proposed) where
  pub number_row : (row k limit : ℕ) → k ≡ count N → limit ≡ P.limit → row ≡ row_of (failing (number_in_range (pinned N.nodes N.reference) limit P.run) k) k
      → row ≡ row_of (failing (numbers N P) (count N)) (count N)
  unfolding number_in_range
  number_row row k limit e l h = rw (← e, ← l) h

  -- what was found among 256 rows, of the network's nodes
  module _ (row : ℕ) (net supply : List ℤ) (few : N.nodes ≤ 256) (s : P.supply ≡ number supply) (e : net ≡ rows 256 (net_flow N (flow N P.run)))
      (h : row ≡ row_of (failing (even_in net supply) 256) 256) where
    nodes_as : failing (even_in net supply) N.nodes ≡ failing (nodes N P) N.nodes
    unfolding balanced
    nodes_as =
        lowest_same (λ v. not (even_in net supply v)) (λ v. not (nodes N P v)) N.nodes
        (λ v l. ap not (ap₂ same (ap (λ l. number l v) e ∙ rows_at (pos 0) 256 (net_flow N (flow N P.run)) v (omega arith)) (ap (λ f. f v) (sym s))))

    pub node_found : row < N.nodes → failing (nodes N P) N.nodes ≡ some row
    node_found l = sym nodes_as ∙ row_below (even_in net supply) N.nodes 256 row few h l

    pub nodes_even : N.nodes ≤ row → failing (nodes N P) N.nodes ≡ none
    nodes_even l = sym nodes_as ∙ row_beyond (even_in net supply) N.nodes 256 row few h l

-- ---- a run that has passed 8
pub limit_small : (system : System) → limit_of system ≤ 2000000000000000000
unfolding limit_of
limit_small (Base b) = omega arith
limit_small (Wider b) = omega arith
limit_small Local = omega arith

module _ (N : Network) (limit : ℕ) (run : List ℤ) (h : limit ≤ 2000000000000000000) (p : AllPass (number_in_range N limit run) (N.nodes + N.circuits)) where
  pub flows_small : (c : ℕ) → c < N.circuits → nat_abs (flow N run c) ≤ 100000000000000
  flows_small c l = says_le.0 (sym (flow_in_range N limit run (N.nodes + c) (omega arith)) ∙ p.each (N.nodes + c) (omega arith))

  -- any number of the run, and 0 past its end
  pub numbers_small : length run ≡ N.nodes + N.circuits → (i : ℕ) → nat_abs (potential run i) ≤ 2000000000000000000
  numbers_small e i = go (dec_lt i N.nodes) (ℕ_discrete i N.reference) (dec_lt i (length run))
    where
      go : Dec (i < N.nodes) → Dec (i ≡ N.reference) → Dec (i < length run) → nat_abs (potential run i) ≤ 2000000000000000000
      go (yes l) (yes q) k = omega (arith, (says_le {m = nat_abs (potential run i)} {n = 0}).0 (sym (reference_in_range N limit run i l q) ∙ p.each i (omega arith)))
      go (yes l) (no q) k = omega (arith, (says_le {m = nat_abs (potential run i)} {n = limit}).0 (sym (potential_in_range N limit run i l q) ∙ p.each i (omega arith)))
      go (no l) q (yes k) = omega (arith, (says_le {m = nat_abs (potential run i)} {n = 100000000000000}).0 (sym (flow_in_range N limit run i (omega arith)) ∙ p.each i (omega arith)))
      go (no l) q (no k) = rw (get_or-eq_default run (pos 0) {n = i} (omega arith)) (omega arith)

-- ---- the chain
module _ (N : Network) (P : Proposed) where
  -- 8 stops at a row
  pub stops_number : (row : ℕ) → row ≡ row_of (failing (numbers N P) (count N)) (count N) → row < count N → Err (BadNumber P.system (row + 1)) ≡ system_stage N P
  unfolding system_stage range_stage at ◌or_else◌
  stops_number row e h =
      let f : failing (numbers N P) (count N) ≡ some row = row_is (numbers N P) (count N) (omega arith) ∙ ap some (sym e) in
      rw (add-one, f) refl

  -- 8 passes
  passes_numbers : failing (numbers N P) (count N) ≡ none → system_stage N P ≡ balance_stage N P or_else miss_stage N P
  unfolding system_stage range_stage at ◌or_else◌
  passes_numbers f = rw f refl

  -- 9 stops at a node
  pub stops_node : failing (numbers N P) (count N) ≡ none → (row : ℕ) → failing (nodes N P) N.nodes ≡ some row → Err (Unbalanced P.system (row + 1)) ≡ system_stage N P
  unfolding balance_stage at ◌or_else◌
  stops_node g row f = rw (add-one, passes_numbers g, f) refl

  -- 9 passes, and 10 decides
  pub stops_misses : failing (numbers N P) (count N) ≡ none → failing (nodes N P) N.nodes ≡ none → low N P ≡ false → Err (MissesTooHigh P.system) ≡ system_stage N P
  unfolding balance_stage miss_stage at unless ◌or_else◌
  stops_misses g f e = rw (passes_numbers g, f, e) refl

  pub passes_all : failing (numbers N P) (count N) ≡ none → failing (nodes N P) N.nodes ≡ none → low N P ≡ true → Ok tt ≡ system_stage N P
  unfolding balance_stage miss_stage at unless ◌or_else◌
  passes_all g f e = rw (passes_numbers g, f, e) refl
