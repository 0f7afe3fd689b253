-- 01, Figures on the edges: the starred rows, as one list with one claim. The third is 02's, request 2: "-500,000,000 nm gives -1".
use Rattle.std.specs.Prelude.{◌≡◌, List, [], ◌∷◌, ℕ, ℤ, pos, neg_ℤ, length, get_or}
use Rattle.meaning.specs.Rows.{rows}
use Rattle.meaning.specs.Study.{Kw, Metres, MicroPerKw}
use Rattle.meaning.specs.Scaled.{scaled}
use Rattle.meaning.specs.declared.Direction.{Direction}
use Rattle.meaning.specs.declared.Direction.TheVariants.{Idle, Backward, InDoubt}
use Rattle.meaning.specs.Direction.{direction}
use Rattle.meaning.specs.Charging.{metres, tariff, residual_of, remainder_of}

-- what a row says, input before result
pub data Edge : Type 0 where
  metres_edge : (nanometres : ℤ) → Metres → Edge
  flow_edge : (flow : ℤ) → Direction → Edge
  scaled_edge : (tec : List Kw) (total_demand : Kw) → List Kw → Edge
  tariff_edge : Metres → (constant factor : ℕ) → MicroPerKw → Edge
  rest_edge : (rest : ℤ) (kw : Kw) → (residual : MicroPerKw) (remainder : ℤ) → Edge

-- that it is so
abbrev pub Holds : Edge → Type 0
Holds (metres_edge nanometres m) = metres nanometres ≡ m
Holds (flow_edge flow d) = direction flow ≡ d
Holds (scaled_edge tec total_demand kws) = rows (length tec) (scaled (length tec) (λ v. get_or tec v 0) total_demand) ≡ kws
Holds (tariff_edge m constant factor t) = tariff m constant factor ≡ t
Holds (rest_edge rest kw residual remainder) = (residual_of rest kw ≡ residual) × (remainder_of rest kw ≡ remainder)

abbrev pub AllHold : List Edge → Type 0
AllHold [] = Unit {0}
AllHold (e ∷ es) = Holds e × AllHold es

abbrev pub starred : List Edge
starred =
    metres_edge (pos 499999999) (pos 0)
    ∷ metres_edge (pos 500000000) (pos 1)
    ∷ metres_edge (neg_ℤ (pos 500000000)) (neg_ℤ (pos 1))
    ∷ metres_edge (neg_ℤ (pos 500000001)) (neg_ℤ (pos 1))
    ∷ flow_edge (pos 200000000) Idle
    ∷ flow_edge (pos 200000001) InDoubt
    ∷ flow_edge (pos 400000000) InDoubt
    ∷ flow_edge (neg_ℤ (pos 400000001)) Backward
    ∷ scaled_edge (1 ∷ 1 ∷ 1 ∷ []) 2 (1 ∷ 1 ∷ 0 ∷ [])
    ∷ tariff_edge (pos 888210) 1007 1800 (pos 16099694)
    ∷ rest_edge (neg_ℤ (pos 1)) 3 (neg_ℤ (pos 1)) (pos 2)
    ∷ []

-- the claim
abbrev pub StarredHold : Type 0
StarredHold = AllHold starred
