-- A percentage in two parts, and the columns of a grid by what counts.
use mathlib.Core.Path.{◌≡◌, refl, ◌∙◌, ap}
use mathlib.Core.Bool.{Bool, true, false, not, cond}
use mathlib.Core.List.{[], ◌∷◌}
use Prim.Native.Nat.{ℕ, zero, suc, ◌+◌, ◌*◌, ◌/◌, ◌%◌, ◌≤◌, ◌<◌}
use native.Mathlib.Nat.{mul-le-mul_right}
use native.Mathlib.Omega.{arith}
use lib.ListN.{get_or}
use Rattle.integers.specs.Numbers.{sum}
use denote.Enum.Bare.{sameb}
use Rattle.meaning.specs.contracts.Plant.{the_type}
use Rattle.meaning.specs.declared.Edition.{Edition}
use Rattle.meaning.specs.declared.Edition.TheVariants.{First, Second}
use Rattle.meaning.specs.declared.Background.{Background}
use Rattle.meaning.specs.declared.Background.TheVariants.{YearRound, Peak}
use Rattle.meaning.specs.declared.Plant.{Plant}
use Rattle.meaning.specs.declared.Plant.TheVariants.{Intermittent, NuclearAndCcs, Interconnector, Hydro, PumpedStorage, Peaking, Other}
use Rattle.meaning.specs.declared.Running.{Running}
use Rattle.meaning.specs.declared.Running.TheVariants as runs
use Rattle.meaning.specs.Grid.{Grid, plant_of, pays, pays_in, over_types, tec_of, node_tec, paying_tec, paying_tec_in}
use Rattle.meaning.specs.Generation.{runs_as, fixed_part, is_variable, fixed_kw, variable_tec}
use Rattle.meaning.specs.Figures.{low_carbon}
use Rattle.meaning.proofs.Plants.{capacity_at}
use Rattle.plants.specs.declared.Counted.{Counted}
use Rattle.plants.specs.declared.Counted.TheVariants.{All, Paying, PayingAtPeak, Fixed, Variable, LowCarbon, Carbon, Of}
use Rattle.plants.specs.Kind.{type_of, same_plant}
use Rattle.plants.specs.Counted.{part_of}
use Rattle.plants.specs.Running.{Percentage}

-- ---- a percentage
split : (percent hundreds rest : ℕ) → percent * hundreds + percent * rest / 100 ≡ percent * (100 * hundreds + rest) / 100
split percent hundreds rest = omega arith

pub percent_split : (percent kw : ℕ) → percent * (kw / 100) + percent * (kw % 100) / 100 ≡ percent * kw / 100
percent_split percent kw = let e : 100 * (kw / 100) + kw % 100 ≡ kw = omega arith in split percent (kw / 100) (kw % 100) ∙ ap (λ (k : ℕ). percent * k / 100) e

-- up to 100 % of a number is at most the number
pub percent_low : (percent k : ℕ) → percent ≤ 100 → percent * k ≤ 100 * k
percent_low percent k h = mul-le-mul_right k h

pub low_percentage : (e : Edition) (b : Background) (plant : Plant) → Percentage (runs_as e b plant)
unfolding runs_as
low_percentage First b plant = tt
low_percentage Second Peak Intermittent = omega arith
low_percentage Second Peak NuclearAndCcs = tt
low_percentage Second Peak Interconnector = omega arith
low_percentage Second Peak Hydro = tt
low_percentage Second Peak PumpedStorage = tt
low_percentage Second Peak Peaking = tt
low_percentage Second Peak Other = tt
low_percentage Second YearRound Intermittent = omega arith
low_percentage Second YearRound NuclearAndCcs = omega arith
low_percentage Second YearRound Interconnector = omega arith
low_percentage Second YearRound Hydro = tt
low_percentage Second YearRound PumpedStorage = omega arith
low_percentage Second YearRound Peaking = omega arith
low_percentage Second YearRound Other = tt

-- ---- no more counts than there is
fixed_low : (r : Running) → Percentage r → (kw : ℕ) → fixed_part r kw ≤ kw
unfolding fixed_part
fixed_low (runs.Fixed percent) h kw = omega (arith, percent_low percent kw h)
fixed_low runs.Variable h kw = omega arith

kept_low : (b : Bool) (kw : ℕ) → cond b kw 0 ≤ kw
kept_low true kw = omega arith
kept_low false kw = omega arith

pub part_low : (counted : Counted) (plant : Plant) (kw : ℕ) → part_of counted plant kw ≤ kw
unfolding part_of
part_low All plant kw = omega arith
part_low Paying plant kw = kept_low (pays plant) kw
part_low PayingAtPeak plant kw = kept_low (pays_in Peak plant) kw
part_low (Fixed e b) plant kw = fixed_low (runs_as e b plant) (low_percentage e b plant) kw
part_low (Variable e b) plant kw = kept_low (is_variable (runs_as e b plant)) kw
part_low LowCarbon plant kw = kept_low (low_carbon plant) kw
part_low Carbon plant kw = kept_low (not (low_carbon plant)) kw
part_low (Of one) plant kw = kept_low (same_plant one plant) kw

-- ---- the types in the order of their numbers
pub types_at : (t : ℕ) (none : Plant) → t < 7 → get_or (Intermittent ∷ NuclearAndCcs ∷ Interconnector ∷ Hydro ∷ PumpedStorage ∷ Peaking ∷ Other ∷ []) t none ≡ plant_of (suc t)
unfolding plant_of
types_at zero none h = refl
types_at (suc zero) none h = refl
types_at (suc (suc zero)) none h = refl
types_at (suc (suc (suc zero))) none h = refl
types_at (suc (suc (suc (suc zero)))) none h = refl
types_at (suc (suc (suc (suc (suc zero))))) none h = refl
types_at (suc (suc (suc (suc (suc (suc zero)))))) none h = refl
types_at (suc (suc (suc (suc (suc (suc (suc t))))))) none h = absurd (omega arith)

-- ---- of a grid
module _ (G : Grid) where
  pub all_tec : over_types (part_of All) G ≡ node_tec G
  unfolding part_of
  all_tec = refl

  pub paying_tec_lem : over_types (part_of Paying) G ≡ paying_tec G
  unfolding part_of
  paying_tec_lem = refl

  pub peak_tec : over_types (part_of PayingAtPeak) G ≡ paying_tec_in Peak G
  unfolding part_of
  peak_tec = refl

  pub low_tec : over_types (part_of LowCarbon) G ≡ tec_of low_carbon G
  unfolding part_of
  low_tec = refl

  pub carbon_tec : over_types (part_of Carbon) G ≡ tec_of (λ plant. not (low_carbon plant)) G
  unfolding part_of
  carbon_tec = refl

  -- of the types one alone counts
  pub type_tec : (v t : ℕ) → t < 7 → over_types (part_of (Of (plant_of (suc t)))) G v ≡ capacity_at G v t
  unfolding over_types sum part_of plant_of same_plant type_of
  type_tec v zero h = omega arith
  type_tec v (suc zero) h = omega arith
  type_tec v (suc (suc zero)) h = omega arith
  type_tec v (suc (suc (suc zero))) h = omega arith
  type_tec v (suc (suc (suc (suc zero)))) h = omega arith
  type_tec v (suc (suc (suc (suc (suc zero))))) h = omega arith
  type_tec v (suc (suc (suc (suc (suc (suc zero)))))) h = omega arith
  type_tec v (suc (suc (suc (suc (suc (suc (suc t))))))) h = absurd (omega arith)

  module _ (b : Background) where
    pub fixed_tec : over_types (part_of (Fixed G.settings.edition b)) G ≡ fixed_kw G b
    unfolding part_of fixed_kw
    fixed_tec = refl

    pub variable_tec_lem : over_types (part_of (Variable G.settings.edition b)) G ≡ variable_tec G b
    unfolding part_of variable_tec
    variable_tec_lem = refl

-- code's equality of plant types is the definition's
pub same_is : (a b : Plant) → sameb the_type a b ≡ same_plant a b
unfolding same_plant type_of
same_is a b = grind arith
