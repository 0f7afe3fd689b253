-- A column of the places passed, and the rest without what they bring in, whatever these are.
use mathlib.Core.Path.{◌≡◌}
use Prim.Native.Nat.{ℕ}
use lib.IntN.{ℤ}
use Rattle.meaning.specs.Columns.{column}
use Rattle.rests.specs.Rests.{less_to}
use Rattle.tariffs.specs.Pricing.{Charged}
use Rattle.tariffs.proofs.priced.price_places.Given as goal

abbrev pub invariant-loop-k : goal.invariant-loop-k
invariant-loop-k g l =
    (line : ℕ → _) (tariff : ℕ → ℤ) (kw : ℕ → ℕ) → Charged (goal.F-post g l.charge) l.count line tariff kw
    → (l.lines ≡ column l.fn.nothing g.row.N l.k line) × (l.left ≡ less_to l.initial.left l.payers.0 tariff kw l.k)
