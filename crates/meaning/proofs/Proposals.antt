-- Refusals 8 to 10 judge whether a proposal solves its system, 15 whether a background is in doubt, and 11 whether a direction is.
use mathlib.Core.Path.{◌≡◌, refl, sym, ◌∙◌, ap, subst}
use mathlib.Core.Logic.{◌⊎◌, inl, inr, ⊎_elim, ◌↔◌, ◌≢◌}
use mathlib.Core.List.Memᴰ
use mathlib.Core.List.{List, [], ◌∷◌, ◌++◌, Memᴰ}
use mathlib.Core.Bool.{Bool, true, false, not, cond, ◌&&◌, ◌||◌, true≢false}
use Prim.Native.Nat.{ℕ, suc, ◌+◌, ◌-◌, ◌≤◌, ◌<◌}
use native.Mathlib.Omega.{arith}
use native.Mathlib.Decide.{dec_lt}
use lib.Dec.{ltb, eqb, leb}
use lib.IntN.{ℤ, pos, nat_abs, ◌-ℤ◌}
use lib.ListN.{length, get_or}
use Rattle.integers.proofs.Core.{Z}
use Rattle.meaning.specs.declared.Edition.{Edition}
use Rattle.meaning.specs.declared.Edition.TheVariants.{First, Second}
use Rattle.meaning.specs.declared.Background.TheVariants.{YearRound, Peak}
use Rattle.meaning.specs.declared.Counting.{Counting}
use Rattle.meaning.specs.declared.Counting.TheVariants.{For, Doubtful}
use Rattle.meaning.specs.Editions.{HasSystem, flow_systems, distance_systems}
use Rattle.meaning.specs.Study.{Runs, circuit}
use Rattle.meaning.specs.declared.System.{System}
use Rattle.meaning.specs.declared.Direction.{Direction}
use Rattle.meaning.specs.declared.Direction.TheVariants.{Idle, Forward, Backward, InDoubt}
use Rattle.meaning.specs.Answers.{Judgement}
use Rattle.meaning.specs.declared.Refusal.TheVariants.{BadNumber, Unbalanced, MissesTooHigh, DirectionInDoubt, BackgroundInDoubt}
use Rattle.meaning.specs.Grid.{Grid}
use Rattle.meaning.specs.Network.{Network, network_of}
use Rattle.meaning.specs.Direction.{in_doubt, counts_for, is_doubtful, has_length}
use Rattle.meaning.specs.Proposal.{same, number_in_range, balanced, Proposed, range_stage, balance_stage, miss_stage, system_stage}
use Rattle.meaning.specs.Systems.{base_flow, counting, background_of, heading, proposed, solution_stage, counting_clear, counting_stage, direction_clear, direction_stage, in_order, ordered, proposals_stage}
use Rattle.meaning.specs.Conditions.{SolvesSystem, Decided, NoDoubt}
use Rattle.meaning.specs.Refusals.{SoundNumber, Balanced, MissesLow, Condition, whole, each_row, AllMet, only_second, system_order, systems_order, counting_order, direction_order, proposals_order}
use Rattle.meaning.proofs.Says.{Says, says_as, ◌also◌, ◌either◌, says_not, says_le, says_eq}
use Rattle.meaning.proofs.Order.{Judges, ◌before◌, both_met, judges_none, judges_second, judges_whole, judges_rows}
use Rattle.meaning.proofs.Systems.{judged_in, has_flow, has_distance}

-- two numbers that differ by 0 are equal
pub not_apart : (y z : ℤ) → nat_abs (y -ℤ z) ≡ 0 → y ≡ z
not_apart y z h = let k : nat_abs (y -ℤ z) ≤ 0 = omega arith in simp Z (omega (arith, simp Z at k))

pub zero_apart : (z : ℤ) → nat_abs (z -ℤ z) ≡ 0
zero_apart z = let k : nat_abs (z -ℤ z) ≤ 0 = simp Z (omega arith) in omega arith

says_same : {y z : ℤ} → Says (same y z) (y ≡ z)
says_same {y} {z} = says_as says_eq (not_apart y z, λ e. rw e (zero_apart z))

-- a test of a premise and of what follows from it
says_if : {a b : Bool} {P Q : Type 0} → Says a P → Says b Q → Says (not a || b) (P → Q)
says_if {a} {b} {P} {Q} s t = says_as (says_not s either t) (there, back a s)
  where
    there : (P → ⊥) ⊎ Q → P → Q
    there (inl f) p = absurd (f p)
    there (inr q) p = q

    back : (a : Bool) → Says a P → (P → Q) → (P → ⊥) ⊎ Q
    back true s f = inr (f (s.0 refl))
    back false s f = inl (λ p. true≢false (sym (s.1 p)))

-- ---- 8, 9 and 10 of one system
module _ (N : Network) (ref : N.reference < N.nodes) (P : Proposed) where
  says_number : (i : ℕ) → Says (number_in_range N P.limit P.run i) (SoundNumber N P i)
  unfolding number_in_range
  says_number i = go (ltb i N.nodes) (says_le {m = suc i} {n = N.nodes})
    where
      z : ℤ
      z = get_or P.run i (pos 0)

      go : (b : Bool) → Says b (i < N.nodes)
          → Says (cond b (leb (nat_abs z) P.limit && (not (eqb i N.reference) || same z (pos 0))) (leb (nat_abs z) 100000000000000)) (SoundNumber N P i)
      go true s =
          says_as (says_le also says_if says_eq says_same) (
            λ t. record { potential = λ h. t.0; flow = λ h. absurd (omega (arith, s.0 refl)); ground = t.1 },
            λ n. (n.potential (s.0 refl), n.ground),
          )
      go false s =
          says_as says_le (
            λ t. record { potential = λ h. absurd (true≢false (sym (s.1 h))); flow = λ h. t; ground = λ e. absurd (omega (arith, past (dec_lt i N.nodes))) },
            λ n. n.flow (past (dec_lt i N.nodes)),
          )
        where
          past : Dec (i < N.nodes) → N.nodes ≤ i
          past (yes h) = absurd (true≢false (sym (s.1 h)))
          past (no h) = omega arith

  judge_system : Judges (system_stage N P)
      (each_row (N.nodes + N.circuits) (SoundNumber N P) (BadNumber P.system)
      ∷ each_row N.nodes (Balanced N P) (Unbalanced P.system)
      ∷ whole (MissesLow N P) (MissesTooHigh P.system)
      ∷ [])
  unfolding system_stage range_stage balance_stage miss_stage balanced
  judge_system =
      judges_rows (N.nodes + N.circuits) (BadNumber P.system) says_number
      before λ _. judges_rows N.nodes (Unbalanced P.system) (λ v. says_same)
      before λ _. judges_whole (MissesTooHigh P.system) says_le

  -- every number sound, each node balanced, misses low: the system is solved
  pub system_met : ((i : ℕ) → i < N.nodes + N.circuits → SoundNumber N P i) × ((v : ℕ) → v < N.nodes → Balanced N P v) × MissesLow N P
      ↔ SolvesSystem N P
  system_met = (
    λ t. record {
      potentials = λ v h. (t.0 v (omega arith)).potential h;
      flows = λ c h. (t.0 (N.nodes + c) (omega arith)).flow (omega arith);
      solves = record { ground = (t.0 N.reference (omega arith)).ground refl; balanced = t.1; close = t.2 };
    },
    λ s. (
      λ i h. record {
        potential = s.potentials i;
        flow = λ k. rw (index i k) at (s.flows (i - N.nodes) (omega arith));
        ground = λ e. rw e s.solves.ground;
      },
      s.solves.balanced,
      s.solves.close,
    ),
  )
    where
      index : (i : ℕ) → N.nodes ≤ i → N.nodes + (i - N.nodes) ≡ i
      index i k = omega arith

-- ---- 15 and 11
says_doubtful : (k : Counting) → Says (is_doubtful k) (k ≡ Doubtful)
unfolding is_doubtful
says_doubtful (For b) = (λ e. absurd (true≢false (sym e)), λ e. ap is_doubtful e)
says_doubtful Doubtful = (λ e. refl, λ e. refl)

-- in edition 1 it is not
pub first_decided : (G : Grid) (runs : Runs) (c : ℕ) → G.settings.edition ≡ First → counting G runs c ≢ Doubtful
unfolding counting counts_for is_doubtful
first_decided G runs c first e =
    true≢false (sym (ap is_doubtful e)
    ∙ ap (λ (e : Edition). is_doubtful (counts_for e (circuit G.circuits c).local_mark (base_flow G runs YearRound c) (base_flow G runs Peak c))) first)

says_doubt : (d : Direction) → Says (in_doubt d) (d ≡ InDoubt)
unfolding in_doubt
says_doubt Idle = (λ e. absurd (true≢false (sym e)), λ e. ap in_doubt e)
says_doubt Forward = (λ e. absurd (true≢false (sym e)), λ e. ap in_doubt e)
says_doubt Backward = (λ e. absurd (true≢false (sym e)), λ e. ap in_doubt e)
says_doubt InDoubt = (λ e. refl, λ e. refl)

module _ (G : Grid) (runs : Runs) where
  judge_counting : Judges (counting_stage G runs) (counting_order G runs)
  unfolding counting_stage counting_clear has_length
  judge_counting =
      judges_second G.settings.edition
      (judges_rows (length G.circuits) BackgroundInDoubt (λ c. says_if says_le (says_not (says_doubtful (counting G runs c)))))

  -- edition 2 alone asks it, and of edition 1 it holds
  counting_met : AllMet (counting_order G runs) ↔ ((c : ℕ) → c < length G.circuits → Decided G runs c)
  counting_met = go G.settings.edition refl
    where
      go : (e : Edition) → G.settings.edition ≡ e
          → AllMet (only_second e (each_row (length G.circuits) (Decided G runs) BackgroundInDoubt ∷ [])) ↔ ((c : ℕ) → c < length G.circuits → Decided G runs c)
      go First h = (λ m c l k. first_decided G runs c h, λ f. tt)
      go Second h = (λ m. m.0, λ f. (f, tt))

  judge_direction : Judges (direction_stage G runs) (direction_order G runs)
  unfolding direction_stage direction_clear has_length
  judge_direction =
      judges_rows (length G.circuits) (λ row. DirectionInDoubt (background_of G runs (row - 1)) row)
      (λ c. says_if says_le (says_not (says_doubt (heading G runs c))))

  -- ---- 8 to 11 and 15: the systems of the edition, and no doubt
  pub record Solved : Type 0 where
    pub each : (system : System) → HasSystem G.settings.edition system → SolvesSystem (network_of G) (proposed G runs system)
    pub clear : NoDoubt G runs

  module _ (ref : (network_of G).reference < (network_of G).nodes) where
    judge_solution : (system : System) → Judges (solution_stage G runs system) (system_order G runs system)
    unfolding network_of proposed
    judge_solution system = judge_system (network_of G) ref (proposed G runs system)

    judge_systems : (ss : List System) {after : Judgement} {rest : List Condition} → Judges after rest
        → Judges (in_order (solution_stage G runs) ss after) (systems_order G runs ss rest)
    unfolding in_order
    judge_systems [] j = j
    judge_systems (s ∷ ss) j = judge_solution s before λ _. judge_systems ss j

    pub judge_proposals : Judges (proposals_stage G runs) (proposals_order G runs)
    unfolding proposals_stage ordered
    judge_proposals =
        let e = G.settings.edition in
        judge_systems (flow_systems e) (judge_counting before λ _. judge_direction before λ _. judge_systems (distance_systems e) judges_none)

    abbrev Solves : System → Type 0
    Solves s = SolvesSystem (network_of G) (proposed G runs s)

    -- what is asked of these systems is that each is solved
    systems_met : (ss : List System) (rest : List Condition) → AllMet (systems_order G runs ss rest) ↔ ((s : System) → Memᴰ s ss → Solves s) × AllMet rest
    unfolding network_of
    systems_met [] rest = (λ m. (λ s i. absurd (Memᴰ.not-nil i), m), λ p. p.1)
    systems_met (q ∷ ss) rest = (
      λ m.
          let h = (systems_met ss rest).0 m.1.1.1 in
          (λ s i. ⊎_elim (λ e. subst Solves (sym e) (of.0 (m.0, m.1.0, m.1.1.0))) (h.0 s) (Memᴰ.cases_cons i), h.1),
      λ p.
          let m = of.1 (p.0 q (Memᴰ.head refl)) in
          (m.0, (m.1, (m.2, (systems_met ss rest).1 (λ s i. p.0 s (Memᴰ.tail i), p.1)))),
    )
      where
        of : ((i : ℕ) → i < length G.nodes + length G.circuits → SoundNumber (network_of G) (proposed G runs q) i)
            × ((v : ℕ) → v < length G.nodes → Balanced (network_of G) (proposed G runs q) v)
            × MissesLow (network_of G) (proposed G runs q)
            ↔ Solves q
        of = system_met (network_of G) ref (proposed G runs q)

    abbrev e : Edition
    e = G.settings.edition

    -- 15 and 11, and the systems behind them
    abbrev behind : List Condition
    behind = counting_order G runs ++ (direction_order G runs ++ systems_order G runs (distance_systems e) [])

    pub solved_met : AllMet (proposals_order G runs) ↔ Solved
    solved_met = (
      λ m.
          let b = (systems_met (flow_systems e) behind).0 m in
          let k = (both_met (counting_order G runs) (direction_order G runs ++ systems_order G runs (distance_systems e) [])).0 b.1 in
          let d = (systems_met (distance_systems e) []).0 k.1.1 in
          record {
            each = λ s h. ⊎_elim (b.0 s) (d.0 s) (Memᴰ.append_cases (flow_systems e) (judged_in e s h));
            clear = record { decided = counting_met.0 k.0; clear = k.1.0 };
          },
      λ s.
          let distances = (systems_met (distance_systems e) []).1 (λ q i. s.each q (has_distance e q i), tt) in
          (systems_met (flow_systems e) behind).1 (
            λ q i. s.each q (has_flow e q i),
            (both_met (counting_order G runs) (direction_order G runs ++ systems_order G runs (distance_systems e) [])).1
                (counting_met.1 s.clear.decided, (s.clear.clear, distances)),
          ),
    )
