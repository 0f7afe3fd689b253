-- 02, request 6 (CUSC 14.15.48 to 57): "Sharing across boundaries", over numbers. Zones count from 1, and a quantity of zones is a function of the zone's number.
-- A boundary is known by its outer zone.
use Rattle.std.specs.Prelude.{Bool, true, false, not, cond, ◌&&◌, ◌||◌, List, [], ◌∷◌, ℕ, zero, suc, ◌+◌, ◌*◌, ◌-◌, eqb, leb, pos, ◌+ℤ◌, ◌-ℤ◌, ◌*ℤ◌, length}
use Rattle.std.proofs.Math.Option.{Option, none, some}
use Rattle.integers.specs.Numbers.{sum, floor_div}
use Rattle.meaning.specs.declared.Edition.{Edition}
use Rattle.meaning.specs.declared.Edition.TheVariants.{First, Second}
use Rattle.meaning.specs.declared.Side.{Side}
use Rattle.meaning.specs.declared.Side.TheVariants.{Generation, Demand}
use Rattle.meaning.specs.Answers.{Judgement}
use Rattle.meaning.specs.declared.Refusal.TheVariants.{BadShare}
use Rattle.meaning.specs.Rows.{◌between◌and◌, failing, any, all}
use Rattle.meaning.specs.Answers.{◌or_else◌, unless, at}
use Rattle.meaning.specs.Study.{Kw, Metres}
use Rattle.meaning.specs.File.{u32}

-- ---- the file `share.bin`
-- "absent, empty or in edition 1, nothing changes": whether the file counts; one that is absent has no bytes
unfoldable pub in_force : Edition → (share : List ℕ) → Bool
in_force First share = false
in_force Second [] = false
in_force Second (b ∷ bs) = true

-- "for each generation zone the next one inward". What is no zone leads nowhere
unfoldable pub next_inward : (share : List ℕ) (zones : ℕ) → (zone : ℕ) → ℕ
next_inward share zones zone = cond (zone between 1 and zones) (u32 share (4 * (zone - 1))) 0

-- "then each plant type's load factor", in thousandths; plant types 1 to 7
unfoldable pub load_factor : (share : List ℕ) (zones : ℕ) → (plant_type : ℕ) → ℕ
load_factor share zones plant_type = u32 share (4 * (zones + (plant_type - 1)))

-- ---- chains
module _ (next : ℕ → ℕ) where
  -- where k numbers lead from z: 0 once the chain has ended
  unfoldable pub after : (k z : ℕ) → ℕ
  after zero z = z
  after (suc k) z = after k (next z)

  -- "every zone whose chain passes it": the chain of a zone passes the zone itself, and all that the chain of the next one passes
  pub data Passes : (z b : ℕ) → Type 0 where
    here : {z : ℕ} → Passes z z
    inward : {z b : ℕ} → Passes (next z) b → Passes z b

  -- the same as a test: a chain that ends has at most as many zones as there are. By the law `says_passes` (proofs/Chains.antt) these agree of a chain that ends
  unfoldable pub passes : (zones z b : ℕ) → Bool
  passes zones z b = any (λ k. eqb (after k z) b) (suc zones)

-- ---- "Refusals: 16, system 0, after 14", of zones 1 to `zones`, the TEC of each over all plant types, and the number that it names
module _ (zones : ℕ) (tec : ℕ → Kw) (next : ℕ → ℕ) where
  -- "names one absent or without TEC": a zone that names one names one with TEC
  unfoldable pub names_one_with_tec : ℕ → Bool
  names_one_with_tec z = eqb (next z) 0 || (leb (next z) zones && leb 1 (tec (next z)))

  -- "names one though it has no TEC"
  unfoldable pub names_with_tec : ℕ → Bool
  names_with_tec z = eqb (next z) 0 || leb 1 (tec z)

  -- "0 for the one centre": a zone with TEC that names none
  unfoldable pub is_centre : ℕ → Bool
  is_centre z = leb 1 (tec z) && eqb (next z) 0

  -- "is a second centre": a lower zone is one
  unfoldable pub second_centre : ℕ → Bool
  second_centre z = is_centre z && any (λ i. is_centre (suc i)) (z - 1)

  -- "or whose chain circles": it has not ended where each zone has been passed
  unfoldable pub ended : ℕ → Bool
  ended z = eqb (after next (suc zones) z) 0

  unfoldable pub sound_zone : ℕ → Bool
  sound_zone z = names_one_with_tec z && names_with_tec z && not (second_centre z) && ended z

-- "u32 numbers": one a zone and seven load factors, "0 to 1,000 thousandths"
unfoldable pub sound_frame : (share : List ℕ) (zones : ℕ) → Bool
sound_frame share zones = eqb (length share) (4 * (zones + 7)) && all (λ t. leb (load_factor share zones (suc t)) 1000) 7

-- "row 0 for a wrong length or load factor, else the lowest zone that" is not sound
unfoldable pub share_file_stage : (share : List ℕ) (zones : ℕ) (tec : ℕ → Kw) → Judgement
share_file_stage share zones tec =
    unless (sound_frame share zones) (BadShare 0) or_else at (failing (λ i. sound_zone zones tec (next_inward share zones) (suc i)) zones) BadShare

-- ---- the split
-- "The factor is 1 up to half low carbon, else 2 less twice the proportion, as an exact fraction" (14.15.53): above and below its line
unfoldable pub factor_over : (low carbon : Kw) → ℕ
factor_over low carbon = cond (leb (2 * low) (low + carbon)) 1 (2 * (low + carbon) - 2 * low)

unfoldable pub factor_under : (low carbon : Kw) → ℕ
factor_under low carbon = cond (leb (2 * low) (low + carbon)) 1 (low + carbon)

-- "the shared part is rounded down towards minus infinity" (14.15.54)
unfoldable pub shared_distance : Metres → (low carbon : Kw) → Metres
shared_distance distance low carbon = floor_div (distance *ℤ pos (factor_over low carbon)) (factor_under low carbon)

module _ (zones : ℕ) (next : ℕ → ℕ) where
  -- "Behind it, .. TEC .. add up over every zone whose chain passes it."
  unfoldable pub behind : (kw : ℕ → Kw) → (boundary : ℕ) → Kw
  behind kw boundary = sum zones (λ i. cond (passes next zones (suc i) boundary) (kw (suc i)) 0)

  -- "Parts along a chain": over the boundaries from z to the centre, k of them at most
  unfoldable pub along : (part : ℕ → Metres) → (k z : ℕ) → Metres
  along part zero z = pos 0
  along part (suc k) z = cond (eqb (next z) 0) (pos 0) (part z +ℤ along part k (next z))

  -- the zone where the chain of z ends
  unfoldable pub centre_of : (k z : ℕ) → ℕ
  centre_of zero z = z
  centre_of (suc k) z = cond (eqb (next z) 0) z (centre_of k (next z))

  -- low carbon TEC (types 1, 2, 4), carbon TEC (the rest), and year round's zonal metres
  module _ (low carbon : ℕ → Kw) (metres : ℕ → Metres) where
    -- "A boundary's distance is the outer zone's metres less the inner's, whichever sign." (14.15.48)
    unfoldable pub boundary : ℕ → Metres
    boundary z = metres z -ℤ metres (next z)

    unfoldable pub shared_part : ℕ → Metres
    shared_part z = shared_distance (boundary z) (behind low z) (behind carbon z)

    -- "and the rest isn't shared" (14.15.55)
    unfoldable pub not_shared_part : ℕ → Metres
    not_shared_part z = boundary z -ℤ shared_part z

    -- (14.15.56 "prints the not-shared symbol for the shared sum; read shared")
    unfoldable pub shared_along : ℕ → Metres
    shared_along z = along shared_part zones z

    -- "plus the centre's metres as not shared" (14.15.57)
    unfoldable pub not_shared_along : ℕ → Metres
    not_shared_along z = along not_shared_part zones z +ℤ metres (centre_of zones z)

-- ---- what a file in force says of a case: zones, the next one inward, low carbon and carbon TEC of each, and the kilowatts that pay its shared tariff
pub record Sharing : Type 0 where
  pub zones : ℕ
  pub next : ℕ → ℕ
  pub low : ℕ → Kw
  pub carbon : ℕ → Kw
  pub kw : ℕ → Kw

-- not-shared and shared metres of a zone, and those kilowatts; where nothing is shared all its metres are not shared
unfoldable pub not_shared_metres : Option Sharing → (metres : ℕ → Metres) → (zone : ℕ) → Metres
not_shared_metres none metres zone = metres zone
not_shared_metres (some s) metres zone = not_shared_along s.zones s.next s.low s.carbon metres zone

unfoldable pub shared_metres : Option Sharing → (metres : ℕ → Metres) → (zone : ℕ) → Metres
shared_metres none metres zone = pos 0
shared_metres (some s) metres zone = shared_along s.zones s.next s.low s.carbon metres zone

unfoldable pub shared_kw : Option Sharing → (zone : ℕ) → Kw
shared_kw none zone = 0
shared_kw (some s) zone = s.kw zone

-- generation's alone: "Edition 2's year round distance splits", on the `G` line
unfoldable pub sharing_on : Side → Option Sharing → Option Sharing
sharing_on Generation sharing = sharing
sharing_on Demand sharing = none
