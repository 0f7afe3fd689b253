-- The circuits that a run has a flow for.
use mathlib.Core.Path.{◌≡◌, sym, ◌∙◌}
use Prim.Native.Nat.{ℕ, ◌+◌, ◌-◌, ◌≤◌, min}
use native.Mathlib.Decide.{dec_le}
use native.Mathlib.Omega.{arith}
use borrow.Author.Tests.{le-leb, lt-leb}
use Rattle.flows.specs.Flows.{circuits_in}
use Rattle.flows.specs.Turns.{Counted}

module _ (n long : ℕ) where
  circuits_least : circuits_in n long ≡ min (long - n) 512
  unfolding circuits_in
  circuits_least = go (dec_le (long - n) 512)
    where
      go : Dec (long - n ≤ 512) → circuits_in n long ≡ min (long - n) 512
      go (yes h) = rw (le-leb (long - n) 512 h) (omega arith)
      go (no h) = rw (lt-leb (long - n) 512 (omega arith)) (omega arith)

  -- what was counted
  pub counted_least : {m : ℕ} → m ≡ min (long - n) 512 → Counted n long m
  counted_least e = record { is = e ∙ sym circuits_least; few = omega arith; rows = omega arith }

  pub counted : Counted n long (circuits_in n long)
  counted = counted_least circuits_least

-- a run of n potentials and m flows
pub circuits_are : (n m long : ℕ) → m ≤ 512 → long ≡ n + m → circuits_in n long ≡ m
circuits_are n m long h e = circuits_least n long ∙ omega arith
