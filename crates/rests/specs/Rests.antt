-- 01, step 10: micro-pounds over the kilowatts that pay, as a residual for each and a remainder below their number.
use Rattle.std.specs.Prelude.{Bool, cond, ◌&&◌, ℕ, zero, suc, ◌+◌, ◌*◌, ◌≤◌, ◌<◌, ◌≡◌, leb, ltb, ℤ, pos, nat_abs, ◌+ℤ◌, ◌-ℤ◌, ◌*ℤ◌}
use Rattle.meaning.specs.Charging.{residual_of, remainder_of}
use Rattle.rests.specs.declared.Rest.{Rest}

-- the micro-pounds that a rest stands for
unfoldable pub value_of : (each : ℤ) (over payers : ℕ) → ℤ
value_of each over payers = each *ℤ pos payers +ℤ pos over

-- "rest / total kW rounded down (also below zero)", and "what is left"
unfoldable pub rest_over : (value : ℤ) (payers : ℕ) → Rest
rest_over value payers = record { each = residual_of value payers; over = nat_abs (remainder_of value payers) }

abbrev pub no_rest : Rest
no_rest = record { each = pos 0; over = 0 }

-- kilowatts that pay: 1 to 10^8; micro-pounds of which 64 bits hold what is left
pub record Divides (value : ℤ) (payers : ℕ) : Type 0 where
  pub some : 1 ≤ payers
  pub most : payers ≤ 100000000
  pub near : nat_abs value ≤ 9000000000000000000

-- a target: up to 10^18
unfoldable pub start_of : (target : ℤ) (payers : ℕ) → Rest
start_of target payers = cond (leb 1 payers && leb payers 100000000 && leb (nat_abs target) 1000000000000000000) (rest_over target payers) no_rest

-- a residual up to 9·10^18, a remainder below the kilowatts that pay, a tariff up to 10^12, on some of those kilowatts
unfoldable pub in_range : (each : ℤ) (over payers : ℕ) (tariff : ℤ) (kw : ℕ) → Bool
in_range each over payers tariff kw =
    leb 1 payers && leb payers 100000000 && ltb over payers && leb kw payers && leb (nat_abs each) 9000000000000000000
    && leb (nat_abs tariff) 1000000000000

pub record InRange (each : ℤ) (over payers : ℕ) (tariff : ℤ) (kw : ℕ) : Type 0 where
  pub some : 1 ≤ payers
  pub most : payers ≤ 100000000
  pub below : over < payers
  pub part : kw ≤ payers
  pub near : nat_abs each ≤ 9000000000000000000
  pub price : nat_abs tariff ≤ 1000000000000

-- the rest less a tariff on kilowatts: exactly; as it was where a number is out of range
unfoldable pub less_of : Rest → (payers : ℕ) (tariff : ℤ) (kw : ℕ) → Rest
less_of r payers tariff kw =
    cond (in_range r.each r.over payers tariff kw) (rest_over (value_of r.each r.over payers -ℤ tariff *ℤ pos kw) payers) r

-- less those of the first n zones or nodes, one after the other
unfoldable pub less_to : Rest → (payers : ℕ) (tariff : ℕ → ℤ) (kw : ℕ → ℕ) → ℕ → Rest
less_to r payers tariff kw zero = r
less_to r payers tariff kw (suc n) = less_of (less_to r payers tariff kw n) payers (tariff n) (kw n)

-- a rest that is that value's, from which n tariffs more can be taken
pub record Holds (r : Rest) (value : ℤ) (payers n : ℕ) : Type 0 where
  pub some : 1 ≤ payers
  pub most : payers ≤ 100000000
  pub is : r ≡ rest_over value payers
  pub near : nat_abs r.each + n * 1000000000001 ≤ 9000000000000000000

-- tariffs up to 10^12, each on some of the kilowatts that pay
pub record Charges (payers n : ℕ) (tariff : ℕ → ℤ) (kw : ℕ → ℕ) : Type 0 where
  pub price : (i : ℕ) → i < n → nat_abs (tariff i) ≤ 1000000000000
  pub part : (i : ℕ) → i < n → kw i ≤ payers
