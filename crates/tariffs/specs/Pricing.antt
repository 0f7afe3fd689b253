-- A line for each place, and what the places' tariffs leave of a rest.
use Rattle.std.specs.Prelude.{◌≡◌, List, ℕ, ◌<◌, ℤ}
use Rattle.meaning.specs.Columns.{column}
use Rattle.rests.specs.declared.Rest.{Rest}
use Rattle.rests.specs.Rests.{less_to}
use Rattle.tariffs.specs.declared.priced.Charge.{Charge}

-- places whose lines, tariffs and kilowatts are these
pub record Charged {T : Type 0} (post : ℕ → Charge T → Type 0) (count : ℕ) (line : ℕ → T) (tariff : ℕ → ℤ) (kw : ℕ → ℕ) : Type 0 where
  pub line_is : (k : ℕ) (c : Charge T) → k < count → post k c → c.line ≡ line k
  pub tariff_is : (k : ℕ) (c : Charge T) → k < count → post k c → c.tariff.0 ≡ tariff k
  pub kw_is : (k : ℕ) (c : Charge T) → k < count → post k c → c.kw.0 ≡ kw k

-- whatever these are: a column of the lines, and the rest less the tariffs
abbrev pub PricedBy : {T : Type 0} → (post : ℕ → Charge T → Type 0) → (nothing : T) → (size count : ℕ) → Rest → (payers : ℕ) → List T → Rest → Type 0
PricedBy post nothing size count rest payers lines left =
    (line : ℕ → _) (tariff : ℕ → ℤ) (kw : ℕ → ℕ) → Charged post count line tariff kw → (lines ≡ column nothing size count line) × (left ≡ less_to rest payers tariff kw count)
