-- A ring of three nodes and three circuits with two different solutions: what the statements ask can be met, and what they say is not nothing.
use mathlib.Core.Path.{◌≡◌, refl, sym, ap}
use mathlib.Core.Bool.{true≢false}
use mathlib.Core.Logic.{◌≢◌}
use mathlib.Core.List.{List, [], ◌∷◌}
use Prim.Native.Nat.{ℕ, zero, suc, ◌≤◌, ◌<◌}
use native.Mathlib.Omega.{arith}
use lib.IntN.{ℤ, pos, neg_ℤ, nat_abs, ◌-ℤ◌}
use lib.ListN.{get_or}
use Rattle.integers.specs.Numbers.{sum, Σ, rounded, nearest}
use Rattle.integers.proofs.Div.{nearest_error}
use Rattle.meaning.specs.Network.{Network, Reached, here, ahead}
use Rattle.meaning.specs.Proposal.{flow_out, flow_in, miss, miss_sum}
use Rattle.meaning.specs.Conditions.{Solves}
use Rattle.meaning.specs.declared.Direction.TheVariants.{Forward, InDoubt}
use Rattle.meaning.specs.Direction.{direction, in_doubt}
use Rattle.network.specs.Statements.{Sound, SolvedTwice}
use Rattle.network.proofs.Theorems.{flows_close, potentials_close, directions_agree, metres_agree}

-- circuits 0 to 1, 1 to 2 and 0 to 2, each with reactance 1; node 0 is the reference
abbrev ring : Network
ring =
    record {
      nodes = 3;
      circuits = 3;
      reference = 0;
      first = λ c. get_or (0 ∷ 1 ∷ 0 ∷ []) c 0;
      second = λ c. get_or (1 ∷ 2 ∷ 2 ∷ []) c 0;
      x = λ c. 1;
    }

abbrev row : List ℤ → ℕ → ℤ
row l i = get_or l i (pos 0)

-- 2,205,000,000 in at node 0 and out at node 2
abbrev supply : ℕ → ℤ
supply = row (pos 2205000000 ∷ pos 0 ∷ neg_ℤ (pos 2205000000) ∷ [])

abbrev offset : ℕ → ℤ
offset c = pos 0

-- the exact solution
abbrev u : ℕ → ℤ
u = row (pos 0 ∷ neg_ℤ (pos 735000000) ∷ neg_ℤ (pos 1470000000) ∷ [])

abbrev f : ℕ → ℤ
f = row (pos 735000000 ∷ pos 735000000 ∷ pos 1470000000 ∷ [])

-- another, with a miss of 90,000,000 on the last circuit
abbrev u' : ℕ → ℤ
u' = row (pos 0 ∷ neg_ℤ (pos 765000000) ∷ neg_ℤ (pos 1530000000) ∷ [])

abbrev f' : ℕ → ℤ
f' = row (pos 765000000 ∷ pos 765000000 ∷ pos 1440000000 ∷ [])

-- what holds at 0, 1 and 2 holds below 3
three : (P : ℕ → Type 0) → P 0 → P 1 → P 2 → (c : ℕ) → c < 3 → P c
three P p q r zero h = p
three P p q r (suc zero) h = q
three P p q r (suc (suc zero)) h = r
three P p q r (suc (suc (suc c))) h = absurd (omega arith)

sound : Sound ring
sound =
    record {
      first = three (λ c. ring.first c < 3) (omega arith) (omega arith) (omega arith);
      second = three (λ c. ring.second c < 3) (omega arith) (omega arith) (omega arith);
      x = λ c h. omega arith;
    }

reached : (v : ℕ) → v < 3 → Reached ring v
reached = three (Reached ring) (here refl) (ahead 0 (omega arith) refl refl (here refl)) (ahead 2 (omega arith) refl refl (here refl))

exact : (M : ℕ) → Solves ring M supply offset u f
unfolding flow_out flow_in Σ miss_sum miss sum
exact M =
    record {
      ground = refl;
      balanced = three (λ v. flow_out ring f v -ℤ flow_in ring f v ≡ supply v) refl refl refl;
      close = omega arith;
    }

rough : (M' : ℕ) → 90000000 ≤ M' → Solves ring M' supply offset u' f'
unfolding flow_out flow_in Σ miss_sum miss sum
rough M' h =
    record {
      ground = refl;
      balanced = three (λ v. flow_out ring f' v -ℤ flow_in ring f' v ≡ supply v) refl refl refl;
      close = omega arith;
    }

twice : (M M' : ℕ) → 90000000 ≤ M' → SolvedTwice ring M M' u f u' f'
twice M M' h = record { sound = sound; supply = supply; offset = offset; once = exact M; again = rough M' h }

-- the two differ: on every circuit, and at every node but the reference
flows_differ : (c : ℕ) → c < 3 → nat_abs (f c -ℤ f' c) ≡ 30000000
flows_differ = three (λ c. nat_abs (f c -ℤ f' c) ≡ 30000000) refl refl refl

potentials_differ : nat_abs (u 2 -ℤ u' 2) ≡ 60000000
potentials_differ = refl

-- A and B of them
ring_flows : (c : ℕ) → c < 3 → nat_abs (f c -ℤ f' c) ≤ 90000000
ring_flows = flows_close ring 0 90000000 u f u' f' (twice 0 90000000 (omega arith))

ring_potentials : (v : ℕ) → v < 3 → nat_abs (u v -ℤ u' v) ≤ 90000000
ring_potentials v h = potentials_close ring 0 90000000 u f u' f' (twice 0 90000000 (omega arith)) v (reached v h)

-- with 01's bound on misses
abbrev limited : SolvedTwice ring 100000000 100000000 u f u' f'
limited = twice 100000000 100000000 (omega arith)

forward_clear : Forward ≢ InDoubt
unfolding in_doubt
forward_clear e = true≢false (sym (ap in_doubt e))

clear : (c : ℕ) → c < 3 → direction (f c) ≢ InDoubt
unfolding direction
clear = three (λ c. direction (f c) ≢ InDoubt) forward_clear forward_clear forward_clear

clear' : (c : ℕ) → c < 3 → direction (f' c) ≢ InDoubt
unfolding direction
clear' = three (λ c. direction (f' c) ≢ InDoubt) forward_clear forward_clear forward_clear

ring_directions : (c : ℕ) → c < 3 → direction (f c) ≡ direction (f' c)
ring_directions c h = directions_agree ring u f u' f' limited c h (clear c h) (clear' c h)

ring_metres : (v : ℕ) → v < 3 → nat_abs (nearest (u v) 1000000000 -ℤ nearest (u' v) 1000000000) ≤ 1
ring_metres v h =
    metres_agree ring u f u' f' limited v (reached v h) (nearest (u v) 1000000000) (nearest (u' v) 1000000000) (nearest_error (u v) 1000000000 (omega arith))
    (nearest_error (u' v) 1000000000 (omega arith))

-- metres are a rounding, so one metre of difference does happen: -1.47 and -1.53
metre_differs : nat_abs (nearest (u 2) 1000000000 -ℤ nearest (u' 2) 1000000000) ≡ 1
unfolding nearest rounded
metre_differs = refl
