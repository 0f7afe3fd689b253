-- Columns: arrays of numbers, one a node or one a zone, with nothing past their count.
use Rattle.std.specs.Prelude.{cond, List, ℕ, ltb, ℤ, pos, get_or}
use Rattle.meaning.specs.Rows.{rows}
use Rattle.meaning.specs.Network.{Network}
use Rattle.meaning.specs.Charging.{no_wider, no_shared}
use Rattle.meaning.specs.declared.Kw.{Kw}
use Rattle.meaning.specs.declared.Metres.{Metres}
use Rattle.meaning.specs.declared.MicroPerKw.{MicroPerKw}
use Rattle.meaning.specs.declared.ZoneFigures.{ZoneFigures}
use Rattle.meaning.specs.declared.LocalFigures.{LocalFigures}

-- 01, Quantities: a number as kilowatts, as metres, as micro-pounds per kilowatt
abbrev pub kilowatts : ℕ → Kw
kilowatts n = record { 0 = n }

abbrev pub distance : ℤ → Metres
distance z = record { 0 = z }

abbrev pub price : ℤ → MicroPerKw
price z = record { 0 = z }

-- number i of a column
abbrev pub number_at : List ℕ → ℕ → ℕ
number_at column i = get_or column i 0

abbrev pub kw_at : List Kw → ℕ → ℕ
kw_at column i = (get_or column i (kilowatts 0)).0

abbrev pub metres_at : List Metres → ℕ → ℤ
metres_at column i = (get_or column i (distance (pos 0))).0

abbrev pub price_at : List MicroPerKw → ℕ → ℤ
price_at column i = (get_or column i (price (pos 0))).0

-- the network of that many nodes and circuits whose ends and reactances stand in columns
abbrev pub network_in : (nodes circuits reference : ℕ) (first second x : List ℕ) → Network
network_in nodes circuits reference first second x =
    record { nodes = nodes; circuits = circuits; reference = reference; first = number_at first; second = number_at second; x = number_at x }

-- an array of that size: f 0, .., f (count − 1), and then nothing
unfoldable pub column : {A : Type 0} → (nothing : A) (size count : ℕ) → (ℕ → A) → List A
column nothing size count f = rows size (λ i. cond (ltb i count) (f i) nothing)

-- past the last zone, and past the last node, a sheet has no figures
abbrev pub no_line : ZoneFigures
no_line = record { weight = kilowatts 0; year_round = no_wider; peak = no_wider; shared = no_shared; total = price (pos 0) }

abbrev pub no_local : LocalFigures
no_local = record { tec = kilowatts 0; metres = distance (pos 0); tariff = price (pos 0) }
