-- The walk: what is reached is what a walk leads to, and all of it once no reached node waits.
use mathlib.Core.Path.{◌≡◌, refl, sym, ◌∙◌, ap}
use mathlib.Core.Logic.{◌⊎◌, inl, inr}
use mathlib.Core.List.{List}
use mathlib.Core.Bool.{Bool, true, false, true≢false, not, ◌&&◌, ◌||◌}
use Prim.Native.Nat.{ℕ, ◌+◌, ◌-◌, ◌/◌, ◌≤◌, ◌<◌}
use native.Mathlib.Omega.{arith}
use lib.Dec.{eqb, ltb}
use lib.ListN.{get_or}
use borrow.Author.Tests.{eq-eqb, eqb-true, ltb-true, lt-ltb}
use Rattle.integers.specs.Numbers.{count}
use Rattle.integers.proofs.Count.{count-le, count_more, count_full}
use Rattle.meaning.specs.declared.Refusal.TheVariants.{Unreached}
use Rattle.std.specs.Prelude.{Ok, Err}
use Rattle.meaning.specs.First.{IsFirst}
use Rattle.meaning.specs.Network.{Network, marked, reached_nodes, reach_stage}
use Rattle.meaning.proofs.First.{first_as, at_first, at_none}
use Rattle.meaning.proofs.Says.{agree}
use Rattle.meaning.proofs.Walk.{Joins, reached_in, reached_home, reached_on, reached_least}
use Rattle.bits.specs.Sets.{has, in_word, SetOf}
use Rattle.bits.proofs.Sets.{word_has, own_word}
use Rattle.walk.specs.Walk.{waits_in, Followed}
use Rattle.meaning.proofs.Tests.{or_elim, or_left, or_right, and_elim, not_false, not_true}

-- ---- what a walk has found: all of it is reached, and of each node visited the circuits were followed
pub record Walking (N : Network) (reached visited : List ℕ) : Type 0 where
  pub sound : (v : ℕ) → has reached v ≡ true → marked (reached_nodes N) v ≡ true
  pub home : N.reference < N.nodes → has reached N.reference ≡ true
  pub served : (v : ℕ) → has visited v ≡ true → (c u : ℕ) → c < N.circuits → u < N.nodes → Joins N c v u → has reached u ≡ true

module _ {N : Network} where
  pub walk_begins : {none reached : List ℕ} → ((v : ℕ) → has none v ≡ false) → SetOf reached (λ m. has none m || (eqb m N.reference && ltb m N.nodes)) → Walking N reached none
  walk_begins {none} {reached} empty holds =
      record { sound = sound; home = home; served = λ v e. absurd (true≢false (sym e ∙ empty v)) }
    where
      sound : (v : ℕ) → has reached v ≡ true → marked (reached_nodes N) v ≡ true
      sound v e =
          let p = and_elim (eqb v N.reference) (ltb v N.nodes) (sym (rw (empty v) at (holds v)) ∙ e) in
          let q = eqb-true v N.reference p.0 in
          rw q (reached_home N (rw (sym q) (ltb-true v N.nodes p.1)))

      home : N.reference < N.nodes → has reached N.reference ≡ true
      home h = holds N.reference ∙ or_right (has none N.reference) (eqb N.reference N.reference && ltb N.reference N.nodes) (rw (eq-eqb N.reference N.reference refl, lt-ltb N.reference N.nodes h) refl)

  -- nodes that were reached are visited: what their circuits lead to is reached too
  pub walk_on : {reached visited wider more : List ℕ} {now : ℕ → Bool} → Walking N reached visited → Followed N now N.circuits reached wider
      → ((v : ℕ) → has more v ≡ true → (has visited v ≡ true) ⊎ (now v ≡ true)) → Walking N wider more
  walk_on {reached} {visited} {wider} {more} {now} w f split =
      record {
        sound = f.sound (marked (reached_nodes N)) w.sound (reached_on N);
        home = λ h. f.kept N.reference (w.home h);
        served = λ v e c u h l j. served v c u h l j (split v e);
      }
    where
      served : (v c u : ℕ) → c < N.circuits → u < N.nodes → Joins N c v u → (has visited v ≡ true) ⊎ (now v ≡ true) → has wider u ≡ true
      served v c u h l j (inl e) = f.kept u (w.served v e c u h l j)
      served v c u h l j (inr e) = f.full c v u h e l j

  -- ---- the walk's two ends
  module _ {reached visited : List ℕ} (w : Walking N reached visited) where
    complete : ((v : ℕ) → marked (reached_nodes N) v ≡ true → has reached v ≡ true) → SetOf reached (marked (reached_nodes N))
    complete all v = agree _ _ (w.sound v, all v) (λ e. e, λ e. e)

    -- "when the ones number the nodes"
    pub walk_full : {long : ℕ} → N.nodes ≤ long → count (has reached) long ≡ N.nodes → SetOf reached (marked (reached_nodes N))
    walk_full {long} h e = complete (λ v k. count_full (has reached) N.nodes long h outside e v (reached_in N v k))
      where
        outside : (v : ℕ) → N.nodes ≤ v → has reached v ≡ false
        outside v l = go (has reached v) refl
          where
            go : (b : Bool) → has reached v ≡ b → b ≡ false
            go true p = absurd (omega (arith, reached_in N v (w.sound v p)))
            go false p = refl

    -- "or no new node is met": no reached node waits
    pub walk_still : (waiting : List ℕ) → N.nodes ≤ 256 → SetOf waiting (λ m. has reached m && not (has visited m)) → IsFirst (has waiting) 256 256 → SetOf reached (marked (reached_nodes N))
    walk_still waiting h holds none = complete (reached_least N (λ v. has reached v ≡ true) w.home on)
      where
        visited_all : (v : ℕ) → has reached v ≡ true → has visited v ≡ true
        visited_all v e = not_true _ (sym (rw e at (holds v)) ∙ none.before v (omega (arith, reached_in N v (w.sound v e))))

        on : (c u v : ℕ) → c < N.circuits → v < N.nodes → Joins N c u v → has reached u ≡ true → has reached v ≡ true
        on c u v k l j e = w.served u (visited_all u e) c v k l j

-- ---- a visit: the nodes of word w that wait
module _ (reached visited waiting : List ℕ) (holds : SetOf waiting (λ m. has reached m && not (has visited m))) (w : ℕ) where
  abbrev visits : ℕ → Bool
  visits = in_word w (get_or waiting w 0)

  module _ (more : List ℕ) (marks : SetOf more (λ m. has visited m || (ltb w 4 && in_word w (get_or waiting w 0) m))) where
    pub visited_now : (v : ℕ) → has more v ≡ true → (has visited v ≡ true) ⊎ (waits_in reached visited w v ≡ true)
    visited_now v e = go (or_elim (has visited v) (ltb w 4 && visits v) (sym (marks v) ∙ e))
      where
        go : (has visited v ≡ true) ⊎ ((ltb w 4 && visits v) ≡ true) → (has visited v ≡ true) ⊎ (waits_in reached visited w v ≡ true)
        go (inl p) = inl p
        go (inr p) = inr (rw (holds v) at (sym (word_has waiting w v) ∙ (and_elim (ltb w 4) (visits v) p).1))

    -- the next node that waits is one of them: fewer nodes are left to visit
    pub fewer : {next : ℕ} → w ≡ next / 64 → IsFirst (has waiting) 256 next → next < 256 → 256 - count (has more) 256 < 256 - count (has visited) 256
    fewer {next} q f h =
        omega (arith, count-le (has more) 256, count_more (has visited) (has more) 256 next (λ u _ p. marks u ∙ or_left (has visited u) _ p) h unvisited chosen)
      where
        unvisited : has visited next ≡ false
        unvisited = not_false (has visited next) (and_elim (has reached next) (not (has visited next)) (sym (holds next) ∙ f.here h)).1

        chosen : has more next ≡ true
        chosen = marks next ∙ or_right (has visited next) (ltb w 4 && visits next) (rw (q, lt-ltb (next / 64) 4 (omega arith), own_word waiting next, f.here h) refl)

-- ---- the stage
module _ (N : Network) (reached : List ℕ) (holds : SetOf reached (marked (reached_nodes N))) where
  pub node_unreached : {r : ℕ} → IsFirst (λ v. not (has reached v)) N.nodes r → r < N.nodes → Err (Unreached (r + 1)) ≡ reach_stage N
  unfolding reach_stage
  node_unreached f h = at_first Unreached (first_as (λ v k. ap not (holds v)) f) h

  pub all_reached : {r : ℕ} → IsFirst (λ v. not (has reached v)) N.nodes r → N.nodes ≤ r → Ok tt ≡ reach_stage N
  unfolding reach_stage
  all_reached f h = at_none Unreached (first_as (λ v k. ap not (holds v)) f) h
