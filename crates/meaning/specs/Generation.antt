-- 01, step 1, and 02, request 5: what runs at each node in a background, by the scaling table in 14.15.7 (of the later edition).
-- In edition 1 every type is variable: nothing is fixed, all demand remains, and what is left is 01's step 1.
use Rattle.std.specs.Prelude.{Bool, true, false, ◌&&◌, ℕ, ◌+◌, ◌*◌, ◌-◌, ◌/◌, leb, ℤ, pos, ◌-ℤ◌, length}
use Rattle.integers.specs.Numbers.{sum}
use Rattle.meaning.specs.declared.Edition.{Edition}
use Rattle.meaning.specs.declared.Edition.TheVariants.{First, Second}
use Rattle.meaning.specs.declared.Background.{Background}
use Rattle.meaning.specs.declared.Background.TheVariants.{YearRound, Peak}
use Rattle.meaning.specs.declared.Plant.{Plant}
use Rattle.meaning.specs.declared.Plant.TheVariants.{Intermittent, NuclearAndCcs, Interconnector, Hydro, PumpedStorage, Peaking, Other}
use Rattle.meaning.specs.declared.Running.{Running}
use Rattle.meaning.specs.declared.Running.TheVariants.{Fixed, Variable}
use Rattle.meaning.specs.Answers.{Judgement}
use Rattle.meaning.specs.declared.Refusal.TheVariants.{Unscalable}
use Rattle.meaning.specs.Study.{Kw}
use Rattle.meaning.specs.Answers.{◌or_else◌, unless, in_second}
use Rattle.meaning.specs.Grid.{Grid, over_types, tec_of, node_demand, total_demand}
use Rattle.meaning.specs.Scaled.{scaled}

-- the table in 14.15.7, column by column
unfoldable pub runs_as : Edition → Background → Plant → Running
runs_as First b plant = Variable
runs_as Second Peak Intermittent = Fixed 0
runs_as Second Peak NuclearAndCcs = Variable
runs_as Second Peak Interconnector = Fixed 0
runs_as Second Peak Hydro = Variable
runs_as Second Peak PumpedStorage = Variable
runs_as Second Peak Peaking = Variable
runs_as Second Peak Other = Variable
runs_as Second YearRound Intermittent = Fixed 70
runs_as Second YearRound NuclearAndCcs = Fixed 85
runs_as Second YearRound Interconnector = Fixed 100
runs_as Second YearRound Hydro = Variable
runs_as Second YearRound PumpedStorage = Fixed 50
runs_as Second YearRound Peaking = Fixed 0
runs_as Second YearRound Other = Variable

-- "fixed types run at their percentage of TEC per node and type, rounded down"
unfoldable pub fixed_part : Running → Kw → Kw
fixed_part (Fixed percent) tec = percent * tec / 100
fixed_part Variable tec = 0

unfoldable pub is_variable : Running → Bool
is_variable (Fixed percent) = false
is_variable Variable = true

module _ (G : Grid) (b : Background) where
  open G use {settings, nodes}

  -- of a node: what is fixed, and the TEC of its variable types
  unfoldable pub fixed_kw : ℕ → Kw
  fixed_kw = over_types (λ plant. fixed_part (runs_as settings.edition b plant)) G

  unfoldable pub variable_tec : ℕ → Kw
  variable_tec = tec_of (λ plant. is_variable (runs_as settings.edition b plant)) G

  abbrev pub total_fixed : Kw
  total_fixed = sum (length nodes) fixed_kw

  abbrev pub total_variable : Kw
  total_variable = sum (length nodes) variable_tec

  -- "the remaining demand"
  unfoldable pub remaining : Kw
  remaining = total_demand G - total_fixed

  -- "variable types share the remaining demand by 01's rule for scaled generation and missing kilowatts, or run at 0 where none remains":
  -- by that rule a share of 0 kW is 0, whatever the TEC
  unfoldable pub generation : ℕ → Kw
  generation v = fixed_kw v + scaled (length nodes) variable_tec remaining v

  -- step 1: "Net is scaled generation less demand."
  unfoldable pub net : ℕ → ℤ
  net v = pos (generation v) -ℤ pos (node_demand G v)

  -- not 14 in this background: "fixed generation above demand or variable generation too small"
  unfoldable pub scalable : Bool
  scalable = leb total_fixed (total_demand G) && leb (total_demand G) (total_fixed + total_variable)

-- "14, system 0 row 0, .. in a background, after 13"
unfoldable pub scaling_stage : Grid → Judgement
scaling_stage G = in_second G.settings.edition (unless (scalable G YearRound) Unscalable or_else unless (scalable G Peak) Unscalable)
