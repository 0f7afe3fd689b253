-- 8: a number of a run, by its place.
use mathlib.Core.Path.{◌≡◌, refl, sym}
use mathlib.Core.Logic.{◌≢◌}
use mathlib.Core.Bool.{Bool, true, false, ◌&&◌}
use mathlib.Core.List.{List}
use Prim.Native.Nat.{ℕ, zero, suc, ◌≤◌, ◌<◌, zero-le}
use native.Mathlib.Omega.{arith}
use lib.Dec.{leb, eqb}
use lib.IntN.{ℤ, pos, nat_abs, ◌-ℤ◌}
use lib.ListN.{get_or}
use borrow.Author.Tests.{lt-ltb, le-ltb, eq-eqb, ne_eqb, le-leb, lt-leb}
use Rattle.integers.proofs.Core.{Z}
use Rattle.meaning.specs.Network.{Network}
use Rattle.meaning.specs.Proposal.{number_in_range}

sub-zero : (z : ℤ) → z -ℤ pos 0 ≡ z
sub-zero z = simp Z (omega arith)

and-true : (b : Bool) → (b && true) ≡ b
and-true true = refl
and-true false = refl

and-false : (b : Bool) → (b && false) ≡ false
and-false true = refl
and-false false = refl

-- a magnitude that is 0 is within any limit
ground : (k limit : ℕ) → (leb k limit && eqb k 0) ≡ leb k 0
ground zero limit = simp (le-leb 0 limit zero-le)
ground (suc k) limit = simp (ne_eqb (suc k) 0 (λ e. omega arith), and-false) (sym (lt-leb (suc k) 0 (omega arith)))

module _ (N : Network) (limit : ℕ) (run : List ℤ) (i : ℕ) where
  -- a flow
  pub flow_in_range : N.nodes ≤ i → number_in_range N limit run i ≡ leb (nat_abs (get_or run i (pos 0))) 100000000000000
  unfolding number_in_range
  flow_in_range h = simp (le-ltb _ _ h)

  -- the reference's potential
  pub reference_in_range : i < N.nodes → i ≡ N.reference → number_in_range N limit run i ≡ leb (nat_abs (get_or run i (pos 0))) 0
  unfolding number_in_range
  reference_in_range h e = simp (lt-ltb _ _ h, eq-eqb _ _ e, sub-zero) (ground (nat_abs (get_or run i (pos 0))) limit)

  -- another potential
  pub potential_in_range : i < N.nodes → i ≢ N.reference → number_in_range N limit run i ≡ leb (nat_abs (get_or run i (pos 0))) limit
  unfolding number_in_range
  potential_in_range h e = simp (lt-ltb _ _ h, ne_eqb _ _ e, and-true)
