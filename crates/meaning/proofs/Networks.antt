-- Networks are one where counts, reference, ends and reactances are equal row by row: what a walk reaches, and what is judged of a proposal, is the same.
use mathlib.Core.Path.{◌≡◌, refl, sym, ◌∙◌, ap, ap₂}
use mathlib.Core.Logic.{inl, inr}
use mathlib.Core.Bool.{true, not, cond}
use Prim.Native.Nat.{ℕ, ◌+◌, ◌<◌}
use native.Mathlib.Omega.{arith}
use lib.Dec.{eqb, leb}
use lib.IntN.{ℤ, pos, nat_abs, ◌-ℤ◌}
use lib.ListN.{get_or}
use Rattle.integers.specs.Numbers.{sum, Σ}
use Rattle.integers.proofs.Sum.{sum_same, Σ-same}
use Rattle.meaning.specs.declared.Refusal.TheVariants.{Unreached, Unbalanced, MissesTooHigh}
use Rattle.meaning.specs.Answers.{◌or_else◌, at, unless}
use Rattle.meaning.specs.Rows.{failing}
use Rattle.meaning.specs.Network.{Network, marked, reached_nodes, reach_stage}
use Rattle.meaning.specs.Proposal.{Proposed, potential, flow, same, number_in_range, balanced, flow_out, flow_in, miss, miss_sum, range_stage, balance_stage, miss_stage, system_stage}
use Rattle.meaning.proofs.Rows.{lowest_same}
use Rattle.meaning.proofs.Says.{agree}
use Rattle.meaning.proofs.Walk.{Joins, reached_home, reached_on, reached_least}

-- the same nodes, joined by the same circuits, from the same reference
pub record SameEnds (N M : Network) : Type 0 where
  pub nodes : N.nodes ≡ M.nodes
  pub circuits : N.circuits ≡ M.circuits
  pub reference : N.reference ≡ M.reference
  pub first : (c : ℕ) → c < N.circuits → N.first c ≡ M.first c
  pub second : (c : ℕ) → c < N.circuits → N.second c ≡ M.second c

-- and with the same reactances
pub record SameNetwork (N M : Network) : Type 0 where
  pub ends : SameEnds N M
  pub x : (c : ℕ) → c < N.circuits → N.x c ≡ M.x c

-- a network is the same as itself, where two proposals for one network are compared
pub network_self : (N : Network) → SameNetwork N N
network_self N =
    record {
      ends = record {
        nodes = refl;
        circuits = refl;
        reference = refl;
        first = λ c h. refl;
        second = λ c h. refl;
      };
      x = λ c h. refl;
    }

-- ---- 6: what a walk reaches
ends_back : {N M : Network} → SameEnds N M → SameEnds M N
ends_back s =
    record {
      nodes = sym s.nodes;
      circuits = sym s.circuits;
      reference = sym s.reference;
      first = λ c h. sym (s.first c (omega (arith, s.circuits)));
      second = λ c h. sym (s.second c (omega (arith, s.circuits)));
    }

reached_within : {N M : Network} → SameEnds N M → (v : ℕ) → marked (reached_nodes N) v ≡ true → marked (reached_nodes M) v ≡ true
reached_within {N} {M} s = reached_least N (λ v. marked (reached_nodes M) v ≡ true) home on
  where
    home : N.reference < N.nodes → marked (reached_nodes M) N.reference ≡ true
    home h = rw s.reference (reached_home M (omega (arith, s.reference, s.nodes)))

    joined : (c u v : ℕ) → c < N.circuits → Joins N c u v → Joins M c u v
    joined c u v h (inl p) = inl (sym (s.first c h) ∙ p.0, sym (s.second c h) ∙ p.1)
    joined c u v h (inr p) = inr (sym (s.second c h) ∙ p.0, sym (s.first c h) ∙ p.1)

    on : (c u v : ℕ) → c < N.circuits → v < N.nodes → Joins N c u v → marked (reached_nodes M) u ≡ true → marked (reached_nodes M) v ≡ true
    on c u v h l j e = reached_on M c u v (omega (arith, s.circuits)) (omega (arith, s.nodes)) (joined c u v h j) e

pub reached_same : {N M : Network} → SameEnds N M → (v : ℕ) → marked (reached_nodes N) v ≡ marked (reached_nodes M) v
reached_same s v = agree _ _ (reached_within s v, reached_within (ends_back s) v) (λ e. e, λ e. e)

pub reach_same : {N M : Network} → SameEnds N M → reach_stage N ≡ reach_stage M
unfolding reach_stage
reach_same {N} {M} s =
    ap (λ o. at o Unreached)
    (lowest_same (λ v. not (marked (reached_nodes N) v)) (λ v. not (marked (reached_nodes M) v)) N.nodes (λ v h. ap not (reached_same s v))
    ∙ ap (failing (marked (reached_nodes M))) s.nodes)

-- ---- 8 to 10: a proposal for a system
pub record SameProposal (N : Network) (P Q : Proposed) : Type 0 where
  pub system : P.system ≡ Q.system
  pub limit : P.limit ≡ Q.limit
  pub run : P.run ≡ Q.run
  pub offset : (c : ℕ) → c < N.circuits → P.offset c ≡ Q.offset c
  pub supply : (v : ℕ) → v < N.nodes → P.supply v ≡ Q.supply v

module _ (N M : Network) (P Q : Proposed) (n : SameNetwork N M) (s : SameProposal N P Q) where
  flow_same : flow N P.run ≡ flow M Q.run
  flow_same = ap₂ (λ n run c. get_or run (n + c) (pos 0)) n.ends.nodes s.run

  range_same : range_stage N P ≡ range_stage M Q
  unfolding range_stage number_in_range
  range_same = simp (n.ends.nodes, n.ends.circuits, n.ends.reference, s.system, s.limit, s.run)

  side_same : (f g : ℕ → ℤ) → f ≡ g → (end end' : ℕ → ℕ) → ((c : ℕ) → c < N.circuits → end c ≡ end' c) → (v : ℕ)
      → Σ N.circuits (λ c. cond (eqb (end c) v) (f c) (pos 0)) ≡ Σ M.circuits (λ c. cond (eqb (end' c) v) (g c) (pos 0))
  side_same f g e end end' h v =
      Σ-same N.circuits (λ c. cond (eqb (end c) v) (f c) (pos 0)) (λ c. cond (eqb (end' c) v) (g c) (pos 0))
      (λ c k. ap₂ (λ a z. cond (eqb a v) z (pos 0)) (h c k) (ap (λ w. w c) e))
      ∙ ap (λ m. Σ m (λ c. cond (eqb (end' c) v) (g c) (pos 0))) n.ends.circuits

  balanced_same : (v : ℕ) → v < N.nodes → balanced N P.supply (flow N P.run) v ≡ balanced M Q.supply (flow M Q.run) v
  unfolding balanced flow_out flow_in
  balanced_same v h =
      ap₂ same (ap₂ ◌-ℤ◌ (side_same _ _ flow_same N.first M.first n.ends.first v) (side_same _ _ flow_same N.second M.second n.ends.second v))
      (s.supply v h)

  balance_same : balance_stage N P ≡ balance_stage M Q
  unfolding balance_stage
  balance_same =
      ap₂ (λ o system. at o (Unbalanced system))
      (lowest_same (λ v. not (balanced N P.supply (flow N P.run) v)) (λ v. not (balanced M Q.supply (flow M Q.run) v)) N.nodes (λ v h. ap not (balanced_same v h))
      ∙ ap (failing (balanced M Q.supply (flow M Q.run))) n.ends.nodes)
      s.system

  missed : (c : ℕ) → c < N.circuits → miss N P.offset (potential P.run) (flow N P.run) c ≡ miss M Q.offset (potential Q.run) (flow M Q.run) c
  unfolding miss
  missed c h = simp (n.ends.first c h, n.ends.second c h, n.x c h, s.offset c h, s.run, n.ends.nodes)

  misses_same : miss_stage N P ≡ miss_stage M Q
  unfolding miss_stage miss_sum
  misses_same =
      ap₂ (λ total system. unless (leb total 100000000) (MissesTooHigh system))
      (sum_same N.circuits (λ c. nat_abs (miss N P.offset (potential P.run) (flow N P.run) c)) (λ c. nat_abs (miss M Q.offset (potential Q.run) (flow M Q.run) c)) (λ c h. ap nat_abs (missed c h))
      ∙ ap (λ m. sum m (λ c. nat_abs (miss M Q.offset (potential Q.run) (flow M Q.run) c))) n.ends.circuits)
      s.system

  pub system_same : system_stage N P ≡ system_stage M Q
  unfolding system_stage
  system_same = ap₂ ◌or_else◌ range_same (ap₂ ◌or_else◌ balance_same misses_same)
