-- 9: what flows out of each node less what flows in, kept up circuit by circuit.
use mathlib.Core.Path.{◌≡◌, refl, sym, ◌∙◌, ap, ap₂}
use mathlib.Core.Bool.{Bool, true, false, cond}
use mathlib.Core.List.{List, []}
use Prim.Native.Nat.{ℕ, ◌+◌, ◌≤◌, ◌<◌}
use native.Mathlib.Decide.{ℕ_discrete, dec_le}
use native.Mathlib.Omega.{arith}
use lib.Dec.{eqb, leb}
use lib.IntN.{ℤ, pos, nat_abs, ◌+ℤ◌, ◌-ℤ◌}
use lib.ListN.{length, length-set, replicate, get_or-replicate}
use lib.Seq.{get_or-set_same, get_or-set_other, ext_get_or}
use borrow.Author.Tests.{eq-eqb, ne_eqb, le-leb, lt-leb}
use mir.Syntax.{w64}
use mir.Val.{SFits}
use Rattle.integers.specs.Numbers.{Σ}
use Rattle.meaning.specs.Rows.{rows}
use Rattle.meaning.specs.Network.{Network}
use Rattle.meaning.specs.Proposal.{flow, flow_out, flow_in}
use Rattle.meaning.proofs.Rows.{rows_at, rows_same, length_rows}
use Rattle.integers.proofs.Core.{Z}
use Rattle.integers.proofs.Laws.{add-zero, abs-add, abs-sub, sfits_abs}
use Rattle.integers.proofs.Sum.{Σ-zero, Σ-more, Σ-bound, Σ-same}
use Rattle.flows.specs.Flows.{number, net_of, carried, net_flow, net_flows}
use Rattle.flows.specs.Turns.{added, Addable}

-- ---- a flow, or none
pub carried_all : (z : ℤ) → leb (nat_abs z) 100000000000000 ≡ true → z ≡ carried z
unfolding carried
carried_all z e = rw e refl

pub carried_none : (z : ℤ) → leb (nat_abs z) 100000000000000 ≡ false → pos 0 ≡ carried z
unfolding carried
carried_none z e = rw e refl

pub carried_small : (z : ℤ) → nat_abs (carried z) ≤ 100000000000000
carried_small z = go (dec_le (nat_abs z) 100000000000000)
  where
    go : Dec (nat_abs z ≤ 100000000000000) → nat_abs (carried z) ≤ 100000000000000
    go (yes h) = rw (← carried_all z (le-leb (nat_abs z) 100000000000000 h)) h
    go (no h) = rw (← carried_none z (lt-leb (nat_abs z) 100000000000000 (omega arith))) (omega arith)

pub carried_fits : (z : ℤ) → SFits w64 (carried z)
carried_fits z = sfits_abs _ (omega (arith, carried_small z))

-- ---- z at node a, nothing at another
abbrev pub only : (a v : ℕ) → ℤ → ℤ
only a v z = cond (eqb a v) z (pos 0)

only_small : (a v b : ℕ) (z : ℤ) → nat_abs z ≤ b → nat_abs (only a v z) ≤ b
only_small a v b z h = go (eqb a v)
  where
    go : (t : Bool) → nat_abs (cond t z (pos 0)) ≤ b
    go true = h
    go false = omega arith

only_turned : (a v : ℕ) (y z : ℤ) → y +ℤ only a v (pos 0 -ℤ z) ≡ y -ℤ only a v z
only_turned a v y z = go (eqb a v)
  where
    go : (t : Bool) → y +ℤ cond t (pos 0 -ℤ z) (pos 0) ≡ y -ℤ cond t z (pos 0)
    go true = simp Z (omega arith)
    go false = simp Z (omega arith)

added_at : (net : List ℤ) (a v : ℕ) (z : ℤ) → v < length net → number (added net a z) v ≡ number net v +ℤ only a v z
added_at net a v z h = go (ℕ_discrete v a)
  where
    go : Dec (v ≡ a) → number (added net a z) v ≡ number net v +ℤ only a v z
    go (yes e) = let k : a < length net = omega arith in rw e (simp (eq-eqb a a refl) (get_or-set_same net a _ (pos 0) k))
    go (no ne) = simp (ne_eqb a v (λ e. ne (sym e)), add-zero) (get_or-set_other net a v _ (pos 0) ne)

-- one flow added: no sum wraps
pub add_fits : (net : List ℤ) (v : ℕ) (z : ℤ) → Addable net z → v < 256 → SFits w64 (number net v) × SFits w64 (number net v +ℤ z)
add_fits net v z s h = simp Z (omega (arith, simp Z at (s.each v h), simp Z at s.flow))

turned_fits : (z : ℤ) → nat_abs z ≤ 100000000000000 → SFits w64 (pos 0 -ℤ z) × (nat_abs (pos 0 -ℤ z) ≤ 100000000000000)
turned_fits z = simp Z (omega arith)

-- ---- circuits from `first` to `second` with flow `f`
module _ (first second : ℕ → ℕ) (f : ℕ → ℤ) where
  -- the net flow out of node v by the circuits before c
  abbrev pub net_to : (v c : ℕ) → ℤ
  net_to v c = Σ c (λ k. only (first k) v (f k)) -ℤ Σ c (λ k. only (second k) v (f k))

  pub record Netted (c : ℕ) (net : List ℤ) : Type 0 where
    pub long : length net ≡ 256
    pub at : (v : ℕ) → v < 256 → number net v ≡ net_to v c

both_sides : (o i x y : ℤ) → ((o -ℤ i) +ℤ x) -ℤ y ≡ (o +ℤ x) -ℤ (i +ℤ y)
both_sides o i x y = simp Z (omega arith)

-- what one circuit of a table does to the net flows
module _ (first second : ℕ → ℕ) (f : ℕ → ℤ) (small : (c : ℕ) → nat_abs (f c) ≤ 100000000000000) (c : ℕ) (few : c < 512) (net : List ℤ) (t : Netted first second f c net) where
  abbrev left : List ℤ
  left = added net (first c) (f c)

  left_long : length left ≡ 256
  left_long = length-set net _ _ ∙ t.long

  left_at : (v : ℕ) → v < 256 → number left v ≡ net_to first second f v c +ℤ only (first c) v (f c)
  left_at v l = added_at net (first c) v (f c) (omega (arith, t.long)) ∙ ap (λ z. z +ℤ only (first c) v (f c)) (t.at v l)

  pub netted_more : Netted first second f (c + 1) (added left (second c) (pos 0 -ℤ f c))
  netted_more = record {
    long = length-set left _ _ ∙ left_long;
    at = λ v l. added_at left (second c) v (pos 0 -ℤ f c) (omega (arith, left_long))
        ∙ only_turned (second c) v (number left v) (f c)
        ∙ ap (λ z. z -ℤ only (second c) v (f c)) (left_at v l)
        ∙ both_sides (Σ c (λ k. only (first k) v (f k))) (Σ c (λ k. only (second k) v (f k))) (only (first c) v (f c)) (only (second c) v (f c))
        ∙ sym (ap₂ ◌-ℤ◌ (Σ-more c (λ k. only (first k) v (f k))) (Σ-more c (λ k. only (second k) v (f k))));
  }

  -- no step wraps
  side_small : (end : ℕ → ℕ) (v : ℕ) → nat_abs (Σ c (λ k. only (end k) v (f k))) ≤ 51200000000000000
  side_small end v = omega (arith, Σ-bound 100000000000000 c (λ k. only (end k) v (f k)) (λ k l. only_small (end k) v _ (f k) (small k)))

  net_small : (v : ℕ) → nat_abs (net_to first second f v c) ≤ 102400000000000000
  net_small v = omega (arith, abs-sub (Σ c (λ k. only (first k) v (f k))) (Σ c (λ k. only (second k) v (f k))), side_small first v, side_small second v)

  pub small_before : Addable net (f c)
  small_before = record {
    long = t.long;
    flow = small c;
    each = λ v l. rw (t.at v l) (omega (arith, net_small v));
  }

  pub small_between : Addable left (pos 0 -ℤ f c)
  small_between = record {
    long = left_long;
    flow = (turned_fits (f c) (small c)).1;
    each = λ v l. rw (left_at v l) (omega (arith, abs-add (net_to first second f v c) (only (first c) v (f c)), net_small v, only_small (first c) v _ (f c) (small c)));
  }

  pub turned_flow : SFits w64 (pos 0 -ℤ f c)
  turned_flow = (turned_fits (f c) (small c)).0

-- before the first circuit
pub netted_none : (first second : ℕ → ℕ) (f : ℕ → ℤ) → Netted first second f 0 (replicate 256 (pos 0))
netted_none first second f = record {
  long = refl;
  at = λ v l. get_or-replicate 256 v (pos 0) (pos 0) l
      ∙ sym (ap₂ ◌-ℤ◌ (Σ-zero (λ k. only (first k) v (f k))) (Σ-zero (λ k. only (second k) v (f k))));
}

-- after the last
module _ (n : ℕ) (first second : List ℕ) (run : List ℤ) where
  abbrev N : Network
  N = net_of n 0 first second [] run

  abbrev pub carried_in : ℕ → ℤ
  carried_in c = carried (flow N run c)

  pub netted_all : (m : ℕ) (net : List ℤ) → m ≡ N.circuits → Netted N.first N.second carried_in m net → net ≡ net_flows n first second run
  unfolding net_flows flow_out flow_in
  netted_all m net e t =
      ext_get_or (pos 0) net (net_flows n first second run) (t.long ∙ sym (length_rows 256 (net_flow N carried_in)))
      (λ v l. let h : v < 256 = omega (arith, t.long) in t.at v h ∙ ap (λ c. net_to N.first N.second carried_in v c) e ∙ sym (rows_at (pos 0) 256 (net_flow N carried_in) v h))

-- ---- what a caller learns, of flows in their range
module _ (n reference : ℕ) (first second x : List ℕ) (run : List ℤ) where
  abbrev whole : Network
  whole = net_of n reference first second x run

  pub net_flows_are : ((c : ℕ) → c < whole.circuits → nat_abs (flow whole run c) ≤ 100000000000000) → net_flows n first second run ≡ rows 256 (net_flow whole (flow whole run))
  unfolding net_flows flow_out flow_in
  net_flows_are h = rows_same 256 _ _ (λ v l. ap₂ ◌-ℤ◌ (side v whole.first) (side v whole.second))
    where
      side : (v : ℕ) (end : ℕ → ℕ) → Σ whole.circuits (λ c. only (end c) v (carried (flow whole run c))) ≡ Σ whole.circuits (λ c. only (end c) v (flow whole run c))
      side v end = Σ-same whole.circuits _ _ (λ c l. ap (only (end c) v) (sym (carried_all _ (le-leb _ _ (h c l)))))
