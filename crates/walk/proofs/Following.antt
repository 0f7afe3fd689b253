-- One visit: a search for the next circuit that has an end among the nodes visited, and what these circuits lead to.
use mathlib.Core.Path.{◌≡◌, refl, sym, ◌∙◌, ap₂}
use mathlib.Core.Logic.{◌⊎◌, inl, inr}
use mathlib.Core.List.{List}
use mathlib.Core.Bool.{Bool, true, false, true≢false, not, ◌&&◌, ◌||◌}
use Prim.Native.Nat.{ℕ, ◌+◌, ◌/◌, ◌≤◌, ◌<◌}
use native.Mathlib.Omega.{arith}
use native.Mathlib.Decide.{dec_lt}
use lib.Dec.{eqb, ltb}
use borrow.Author.Tests.{eq-eqb, eqb-true, ltb-true, lt-ltb}
use Rattle.meaning.specs.Network.{Network}
use Rattle.meaning.proofs.Walk.{Joins}
use Rattle.meaning.proofs.Rows.{below_suc}
use Rattle.bits.specs.Sets.{has, in_word, SetOf}
use Rattle.walk.specs.Walk.{waits_in, LowestFrom, Followed}
use Rattle.meaning.proofs.Tests.{or_elim, or_left, or_right, and_elim, and_intro}

-- ---- a search from a row on, as far as c
pub record Sought (test : ℕ → Bool) (from m c : ℕ) : Type 0 where
  pub after : from ≤ c
  pub within : c ≤ m
  pub none : (j : ℕ) → from ≤ j → j < c → test j ≡ false

-- ---- the circuits that have an end among some nodes
module _ (N : Network) where
  abbrev ends : (ℕ → Bool) → ℕ → Bool
  ends nodes c = nodes (N.first c) || nodes (N.second c)

  joins_ends : (nodes : ℕ → Bool) (c u v : ℕ) → nodes u ≡ true → Joins N c u v → ends nodes c ≡ true
  joins_ends nodes c u v e (inl p) = or_left (nodes (N.first c)) (nodes (N.second c)) (rw p.0 e)
  joins_ends nodes c u v e (inr p) = or_right (nodes (N.first c)) (nodes (N.second c)) (rw p.0 e)

  module _ (visits : ℕ → Bool) where
    followed_none : (old : List ℕ) → Followed N visits 0 old old
    followed_none old = record { kept = λ v e. e; full = λ j u v h. absurd (omega arith); sound = λ P h on. h }

    -- circuits without an end among the nodes visited, or among more nodes than these, lead nowhere
    followed_over : {old new : List ℕ} {more : ℕ → Bool} {c r m : ℕ} → ((v : ℕ) → visits v ≡ true → more v ≡ true) → Followed N visits c old new → LowestFrom (ends more) c m r → Followed N visits r old new
    followed_over {old} {new} {more} {c} {r} grow s n = record { kept = s.kept; full = λ j u v h e l i. go j u v h e l i (dec_lt j c); sound = s.sound }
      where
        go : (j u v : ℕ) → j < r → visits u ≡ true → v < N.nodes → Joins N j u v → Dec (j < c) → has new v ≡ true
        go j u v h e l i (yes k) = s.full j u v k e l i
        go j u v h e l i (no k) = absurd (true≢false (sym (joins_ends more j u v (grow u e) i) ∙ n.between j (omega arith) h))

    -- of one with an end that was reached both ends are reached
    module _ (old new middle more : List ℕ) {c : ℕ} (s : Followed N visits c old new) (h : c < N.circuits) (e : ends (has new) c ≡ true)
        (first : SetOf middle (λ m. has new m || (eqb m (N.first c) && ltb m N.nodes)))
        (second : SetOf more (λ m. has middle m || (eqb m (N.second c) && ltb m N.nodes))) where
      added : (v end : ℕ) → v < N.nodes → end ≡ v → (eqb v end && ltb v N.nodes) ≡ true
      added v end l q = rw (eq-eqb v end (sym q), lt-ltb v N.nodes l) refl

      from_middle : (v : ℕ) → has middle v ≡ true → has more v ≡ true
      from_middle v p = second v ∙ or_left (has middle v) _ p

      grown : (v : ℕ) → has new v ≡ true → has more v ≡ true
      grown v p = from_middle v (first v ∙ or_left (has new v) _ p)

      led : (u v : ℕ) → v < N.nodes → Joins N c u v → has more v ≡ true
      led u v l (inl p) = second v ∙ or_right (has middle v) _ (added v (N.second c) l p.1)
      led u v l (inr p) = from_middle v (first v ∙ or_right (has new v) _ (added v (N.first c) l p.1))

      module _ (P : ℕ → Bool) (was : (v : ℕ) → has old v ≡ true → P v ≡ true)
          (on : (j u v : ℕ) → j < N.circuits → v < N.nodes → Joins N j u v → P u ≡ true → P v ≡ true) where
        -- of two ends one was reached, and leads to the other
        end_first : N.first c < N.nodes → P (N.first c) ≡ true
        end_first l = go (or_elim (has new (N.first c)) (has new (N.second c)) e)
          where
            go : (has new (N.first c) ≡ true) ⊎ (has new (N.second c) ≡ true) → P (N.first c) ≡ true
            go (inl p) = s.sound P was on (N.first c) p
            go (inr p) = on c (N.second c) (N.first c) h l (inr (refl, refl)) (s.sound P was on (N.second c) p)

        end_second : N.second c < N.nodes → P (N.second c) ≡ true
        end_second l = go (or_elim (has new (N.first c)) (has new (N.second c)) e)
          where
            go : (has new (N.first c) ≡ true) ⊎ (has new (N.second c) ≡ true) → P (N.second c) ≡ true
            go (inl p) = on c (N.first c) (N.second c) h l (inl (refl, refl)) (s.sound P was on (N.first c) p)
            go (inr p) = s.sound P was on (N.second c) p

        at_end : (v end : ℕ) → (end < N.nodes → P end ≡ true) → (eqb v end && ltb v N.nodes) ≡ true → P v ≡ true
        at_end v end there p =
            let q = and_elim (eqb v end) (ltb v N.nodes) p in
            let r = eqb-true v end q.0 in
            rw r (there (rw (sym r) (ltb-true v N.nodes q.1)))

        still : (v : ℕ) → has more v ≡ true → P v ≡ true
        still v p = go (or_elim (has middle v) _ (sym (second v) ∙ p))
          where
            before : (has new v ≡ true) ⊎ ((eqb v (N.first c) && ltb v N.nodes) ≡ true) → P v ≡ true
            before (inl q) = s.sound P was on v q
            before (inr q) = at_end v (N.first c) end_first q

            go : (has middle v ≡ true) ⊎ ((eqb v (N.second c) && ltb v N.nodes) ≡ true) → P v ≡ true
            go (inl q) = before (or_elim (has new v) _ (sym (first v) ∙ q))
            go (inr q) = at_end v (N.second c) end_second q

      followed_more : Followed N visits (c + 1) old more
      followed_more = record { kept = λ v p. grown v (s.kept v p); full = λ j u v k p l i. go j u v p l i (below_suc c j (omega arith)); sound = still }
        where
          go : (j u v : ℕ) → visits u ≡ true → v < N.nodes → Joins N j u v → (j < c) ⊎ (j ≡ c) → has more v ≡ true
          go j u v p l i (inl k) = grown v (s.full j u v k p l i)
          go j u v p l i (inr q) = led u v l (rw q at i)

-- ---- the loop from one circuit that has an end among the nodes of a word that wait to the next
module _ (N : Network) (visited : List ℕ) (w : ℕ) where
  abbrev waits : List ℕ → ℕ → Bool
  waits reached = waits_in reached visited w

  waits_reached : (set : List ℕ) (v : ℕ) → waits set v ≡ true → has set v ≡ true
  waits_reached set v e = (and_elim (has set v) (not (has visited v)) (and_elim (eqb (v / 64) w) (has set v && not (has visited v)) e).1).0

  -- what waits goes on waiting as more is reached
  waits_on : (old new : List ℕ) → ((v : ℕ) → has old v ≡ true → has new v ≡ true) → (v : ℕ) → waits old v ≡ true → waits new v ≡ true
  waits_on old new kept v e =
      let p = and_elim (eqb (v / 64) w) (has old v && not (has visited v)) e in
      let q = and_elim (has old v) (not (has visited v)) p.1 in
      and_intro (eqb (v / 64) w) (has new v && not (has visited v)) p.0 (and_intro (has new v) (not (has visited v)) (kept v q.0) q.1)

  pub record Following (m c : ℕ) (old new : List ℕ) : Type 0 where
    pub followed : Followed N (waits old) c old new
    pub within : c ≤ m
    pub here : c < m → ends N (has new) c ≡ true

  ends_reached : (set : List ℕ) (c : ℕ) → ends N (waits set) c ≡ true → ends N (has set) c ≡ true
  ends_reached set c e = go (or_elim (waits set (N.first c)) (waits set (N.second c)) e)
    where
      go : (waits set (N.first c) ≡ true) ⊎ (waits set (N.second c) ≡ true) → ends N (has set) c ≡ true
      go (inl p) = or_left (has set (N.first c)) (has set (N.second c)) (waits_reached set (N.first c) p)
      go (inr p) = or_right (has set (N.first c)) (has set (N.second c)) (waits_reached set (N.second c) p)

  -- the search goes by the word of what waits
  next_waits : (set : List ℕ) (word : ℕ) {from m r : ℕ} → ((v : ℕ) → in_word w word v ≡ waits set v) → LowestFrom (ends N (in_word w word)) from m r → LowestFrom (ends N (waits set)) from m r
  next_waits set word e n =
      record { after = n.after; within = n.within; between = λ j h k. sym (same j) ∙ n.between j h k; here = λ h. sym (same _) ∙ n.here h }
    where
      same : (j : ℕ) → ends N (in_word w word) j ≡ ends N (waits set) j
      same j = ap₂ ◌||◌ (e (N.first j)) (e (N.second j))

  pub following_begins : {old : List ℕ} (word : ℕ) {m r : ℕ} → ((v : ℕ) → in_word w word v ≡ waits old v) → LowestFrom (ends N (in_word w word)) 0 m r → Following m r old old
  following_begins {old} word {m} {r} e k =
      let n = next_waits old word e k in
      record { followed = followed_over N (waits old) (λ v p. p) (followed_none N (waits old) old) n; within = n.within; here = λ h. ends_reached old r (n.here h) }

  pub following_on : (old new middle more : List ℕ) (word : ℕ) {c r : ℕ} → Following N.circuits c old new → c < N.circuits
      → SetOf middle (λ m. has new m || (eqb m (N.first c) && ltb m N.nodes))
      → SetOf more (λ m. has middle m || (eqb m (N.second c) && ltb m N.nodes))
      → ((v : ℕ) → in_word w word v ≡ waits more v) → LowestFrom (ends N (in_word w word)) (c + 1) N.circuits r → Following N.circuits r old more
  following_on old new middle more word {c} {r} s h first second e k =
      let n = next_waits more word e k in
      let f = followed_more N (waits old) old new middle more s.followed h (s.here h) first second in
      record { followed = followed_over N (waits old) (waits_on old more f.kept) f n; within = n.within; here = λ l. ends_reached more r (n.here l) }

  pub following_ends : {old new : List ℕ} {m c : ℕ} → Following m c old new → m ≤ c → Followed N (waits old) m old new
  following_ends {m = m} {c = c} s h = let q : c ≡ m = omega (arith, s.within) in rw (sym q) s.followed
