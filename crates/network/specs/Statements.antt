-- Demand 3, for one system: two solvers whose solutions are both accepted cannot disagree. Proved in proofs/Theorems.antt.
use Rattle.std.specs.Prelude.{◌≡◌, ◌≢◌, ℕ, ◌+◌, ◌≤◌, ◌<◌, ℤ, nat_abs, ◌-ℤ◌}
use Rattle.integers.specs.Numbers.{Near}
use Rattle.meaning.specs.Network.{Network, Reached}
use Rattle.meaning.specs.Conditions.{Solves}
use Rattle.meaning.specs.declared.Direction.TheVariants.{InDoubt}
use Rattle.meaning.specs.declared.Counting.TheVariants.{Doubtful}
use Rattle.meaning.specs.Direction.{direction, by_flows}

-- each circuit lies between nodes of the network and has a reactance of at least 1
pub record Sound (N : Network) : Type 0 where
  pub first : (c : ℕ) → c < N.circuits → N.first c < N.nodes
  pub second : (c : ℕ) → c < N.circuits → N.second c < N.nodes
  pub x : (c : ℕ) → c < N.circuits → 1 ≤ N.x c

-- Two solutions of one system (01, step 2): potentials u and flows f with misses that add up to at most M, and u' and f' with at most M'.
-- Network, supply and offset are the same for both; how the solvers came to their numbers is not asked.
pub record SolvedTwice (N : Network) (M M' : ℕ) (u f u' f' : ℕ → ℤ) : Type 0 where
  pub sound : Sound N
  pub supply : ℕ → ℤ
  pub offset : ℕ → ℤ
  pub once : Solves N M supply offset u f
  pub again : Solves N M' supply offset u' f'

-- A. On every circuit the two flows differ by at most the misses allowed to both together.
abbrev pub FlowsClose : Type 0
FlowsClose = (N : Network) (M M' : ℕ) (u f u' f' : ℕ → ℤ) → SolvedTwice N M M' u f u' f'
    → (c : ℕ) → c < N.circuits → nat_abs (f c -ℤ f' c) ≤ M + M'

-- B. At every node that circuits join to the reference the two potentials differ by at most the misses allowed to both together.
abbrev pub PotentialsClose : Type 0
PotentialsClose = (N : Network) (M M' : ℕ) (u f u' f' : ℕ → ℤ) → SolvedTwice N M M' u f u' f'
    → (v : ℕ) → Reached N v → nat_abs (u v -ℤ u' v) ≤ M + M'

-- Base flows, with 01's bound on misses: a circuit that is in doubt in neither solution is idle in both, or directed the same way in both.
-- 01: "Two solvers then disagree; the bands exist so that they can't."
abbrev pub DirectionsAgree : Type 0
DirectionsAgree = (N : Network) (u f u' f' : ℕ → ℤ) → SolvedTwice N 100000000 100000000 u f u' f'
    → (c : ℕ) → c < N.circuits → direction (f c) ≢ InDoubt → direction (f' c) ≢ InDoubt → direction (f c) ≡ direction (f' c)

-- Wider and local potentials, with 01's bound on misses: whole metres nearest to them (01, step 6), wherever a half goes, are the same in both, or one metre apart.
abbrev pub MetresAgree : Type 0
MetresAgree = (N : Network) (u f u' f' : ℕ → ℤ) → SolvedTwice N 100000000 100000000 u f u' f'
    → (v : ℕ) → Reached N v → (k k' : ℤ) → Near (u v) 1000000000 k → Near (u' v) 1000000000 k' → nat_abs (k -ℤ k') ≤ 1

-- 02, request 5: year round base flows f and peak base flows g, each solved twice. A circuit that is in doubt in neither counts for the same background in both.
abbrev pub BackgroundsAgree : Type 0
BackgroundsAgree = (N : Network) (u f u' f' w g w' g' : ℕ → ℤ)
    → SolvedTwice N 100000000 100000000 u f u' f' → SolvedTwice N 100000000 100000000 w g w' g'
    → (c : ℕ) → c < N.circuits → by_flows (f c) (g c) ≢ Doubtful → by_flows (f' c) (g' c) ≢ Doubtful → by_flows (f c) (g c) ≡ by_flows (f' c) (g' c)
