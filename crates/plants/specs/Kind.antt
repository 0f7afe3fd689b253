-- 01, The case file: plant types 1 to 7 by their numbers, and whether two are one.
use Rattle.std.specs.Prelude.{Bool, ℕ, eqb}
use Rattle.meaning.specs.declared.Plant.{Plant}
use Rattle.meaning.specs.declared.Plant.TheVariants.{Intermittent, NuclearAndCcs, Interconnector, Hydro, PumpedStorage, Peaking, Other}

unfoldable pub type_of : Plant → ℕ
type_of Intermittent = 1
type_of NuclearAndCcs = 2
type_of Interconnector = 3
type_of Hydro = 4
type_of PumpedStorage = 5
type_of Peaking = 6
type_of Other = 7

unfoldable pub same_plant : (one other : Plant) → Bool
same_plant one other = eqb (type_of one) (type_of other)
