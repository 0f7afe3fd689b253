-- What runs in a background adds up to the demand, and no node runs above its TEC. In edition 1 it is 01's scaled generation.
use mathlib.Core.Path.{◌≡◌, refl, sym, ◌∙◌, ap, ap₂}
use mathlib.Core.Bool.{Bool, true, false, cond}
use Prim.Native.Nat.{ℕ, ◌+◌, ◌≤◌}
use native.Mathlib.Nat.{zero-div, zero-mod, mul-zero}
use native.Mathlib.Decide.{dec_le}
use native.Mathlib.Omega.{arith}
use lib.Dec.{ltb}
use lib.ListN.{length}
use Rattle.integers.specs.Numbers.{sum}
use Rattle.integers.proofs.Sum.{sum-add, sum-le, sum_none}
use Rattle.meaning.specs.declared.Edition.{Edition}
use Rattle.meaning.specs.declared.Edition.TheVariants.{First, Second}
use Rattle.meaning.specs.declared.Background.{Background}
use Rattle.meaning.specs.declared.Background.TheVariants.{YearRound, Peak}
use Rattle.meaning.specs.declared.Plant.{Plant}
use Rattle.meaning.specs.declared.Plant.TheVariants.{Intermittent, NuclearAndCcs, Interconnector, Hydro, PumpedStorage, Peaking, Other}
use Rattle.meaning.specs.Grid.{Grid, grid_of, pays, pays_in, over_types, tec_of, node_tec, paying_tec_in, total_demand}
use Rattle.meaning.specs.Scaled.{whole_share, left_over, missing, scaled}
use Rattle.meaning.specs.Generation.{runs_as, fixed_part, is_variable, fixed_kw, variable_tec, total_variable, remaining, generation}
use Rattle.meaning.specs.Editions.{Of}
use Rattle.meaning.specs.Study.{Study}
use Rattle.meaning.specs.Conditions.{Scalable, SoundStudy}
use Rattle.meaning.proofs.Shares.{scaled_sum, scaled_most}
use Rattle.meaning.proofs.Plants.{types_le, tec_le}

-- ---- "or run at 0 where none remains"
pub scaled_nought : (n : ℕ) (tec : ℕ → ℕ) (v : ℕ) → scaled n tec 0 v ≡ 0
unfolding scaled whole_share left_over
scaled_nought n tec v = rw (mul-zero (tec v), zero-div (sum n tec), zero-mod (sum n tec)) (go (ltb (sum v (left_over n tec 0)) (missing n tec 0)))
  where
    go : (given : Bool) → 0 + cond given 0 0 ≡ 0
    go true = refl
    go false = refl

module _ (n : ℕ) (tec : ℕ → ℕ) (D : ℕ) (enough : D ≤ sum n tec) where
  none_remains : (1 ≤ sum n tec → ⊥) → D ≡ 0
  none_remains f = omega arith

  scaled_adds : sum n (scaled n tec D) ≡ D
  scaled_adds = go (dec_le 1 (sum n tec))
    where
      go : Dec (1 ≤ sum n tec) → sum n (scaled n tec D) ≡ D
      go (yes h) = scaled_sum n tec D h
      go (no h) = let e = none_remains h in sum_none n _ (λ v l. ap (λ (d : ℕ). scaled n tec d v) e ∙ scaled_nought n tec v) ∙ sym e

  pub scaled_fits : (v : ℕ) → scaled n tec D v ≤ tec v
  scaled_fits v = go (dec_le 1 (sum n tec))
    where
      go : Dec (1 ≤ sum n tec) → scaled n tec D v ≤ tec v
      go (yes h) = scaled_most n tec D v h enough
      go (no h) = omega (arith, ap (λ (d : ℕ). scaled n tec d v) (none_remains h), scaled_nought n tec v)

-- ---- of each plant type: what is fixed, and what may run, is at most its TEC
type_runs : (e : Edition) (b : Background) (plant : Plant) (kw : ℕ)
    → fixed_part (runs_as e b plant) kw + cond (is_variable (runs_as e b plant)) kw 0 ≤ kw
unfolding runs_as fixed_part is_variable
type_runs First b plant kw = omega arith
type_runs Second Peak Intermittent kw = omega arith
type_runs Second Peak NuclearAndCcs kw = omega arith
type_runs Second Peak Interconnector kw = omega arith
type_runs Second Peak Hydro kw = omega arith
type_runs Second Peak PumpedStorage kw = omega arith
type_runs Second Peak Peaking kw = omega arith
type_runs Second Peak Other kw = omega arith
type_runs Second YearRound Intermittent kw = omega arith
type_runs Second YearRound NuclearAndCcs kw = omega arith
type_runs Second YearRound Interconnector kw = omega arith
type_runs Second YearRound Hydro kw = omega arith
type_runs Second YearRound PumpedStorage kw = omega arith
type_runs Second YearRound Peaking kw = omega arith
type_runs Second YearRound Other kw = omega arith

types_add : (f g : Plant → ℕ → ℕ) (G : Grid) (v : ℕ) → over_types (λ plant kw. f plant kw + g plant kw) G v ≡ over_types f G v + over_types g G v
unfolding over_types
types_add f g G v = sum-add 7 _ _

module _ (G : Grid) (b : Background) where
  pub node_runs : (v : ℕ) → fixed_kw G b v + variable_tec G b v ≤ node_tec G v
  unfolding fixed_kw variable_tec
  node_runs v = omega (
    arith,
    types_add (λ plant. fixed_part (runs_as G.settings.edition b plant)) (λ plant kw. cond (is_variable (runs_as G.settings.edition b plant)) kw 0) G v,
    types_le _ (λ plant kw. kw) (type_runs G.settings.edition b) G v,
  )

  module _ (s : Scalable G b) where
    pub remaining_fits : remaining G b ≤ total_variable G b
    unfolding remaining
    remaining_fits = omega (arith, s.variable)

    -- what runs adds up to the demand
    pub generation_total : sum (length G.nodes) (generation G b) ≡ total_demand G
    unfolding generation remaining
    generation_total = omega (
      arith,
      s.fixed,
      sum-add (length G.nodes) (fixed_kw G b) (scaled (length G.nodes) (variable_tec G b) (remaining G b)),
      scaled_adds (length G.nodes) (variable_tec G b) (remaining G b) remaining_fits,
    )

    -- and no node runs above its TEC
    pub generation_most : (v : ℕ) → generation G b v ≤ node_tec G v
    unfolding generation
    generation_most v = omega (arith, node_runs v, scaled_fits (length G.nodes) (variable_tec G b) (remaining G b) remaining_fits v)

-- ---- peak: nothing is fixed but at 0, and what is variable pays
peak_fixed : (e : Edition) → Of Peak e → (plant : Plant) (kw : ℕ) → fixed_part (runs_as e Peak plant) kw ≤ 0
unfolding runs_as fixed_part
peak_fixed First h plant kw = absurd h
peak_fixed Second h Intermittent kw = omega arith
peak_fixed Second h NuclearAndCcs kw = omega arith
peak_fixed Second h Interconnector kw = omega arith
peak_fixed Second h Hydro kw = omega arith
peak_fixed Second h PumpedStorage kw = omega arith
peak_fixed Second h Peaking kw = omega arith
peak_fixed Second h Other kw = omega arith

peak_variable : (e : Edition) → Of Peak e → (plant : Plant) → is_variable (runs_as e Peak plant) ≡ true → pays_in Peak plant ≡ true
unfolding runs_as is_variable pays_in pays
peak_variable First h plant t = absurd h
peak_variable Second h Intermittent t = t
peak_variable Second h NuclearAndCcs t = refl
peak_variable Second h Interconnector t = t
peak_variable Second h Hydro t = refl
peak_variable Second h PumpedStorage t = refl
peak_variable Second h Peaking t = refl
peak_variable Second h Other t = refl

none_of : (G : Grid) (v : ℕ) → over_types (λ plant kw. 0) G v ≡ 0
unfolding over_types
none_of G v = sum_none 7 _ (λ t h. refl)

-- 14 has passed in peak, so some TEC pays there: C's divisor is above 0 even where demand's share is 0
pub peak_pays : (G : Grid) → Of Peak G.settings.edition → Scalable G Peak → total_demand G ≤ sum (length G.nodes) (paying_tec_in Peak G)
unfolding fixed_kw variable_tec
peak_pays G h s = omega (
  arith,
  s.variable,
  sum_none (length G.nodes) (fixed_kw G Peak) (λ v l. omega (arith, types_le _ (λ plant kw. 0) (peak_fixed G.settings.edition h) G v, none_of G v)),
  sum-le (length G.nodes) (variable_tec G Peak) (paying_tec_in Peak G)
      (λ v l. tec_le {f = λ plant. is_variable (runs_as G.settings.edition Peak plant)} {g = pays_in Peak} (peak_variable G.settings.edition h) G v),
)

-- ---- edition 1: 01's step 1, "node TEC x total demand / total TEC", and no 14
module _ (G : Grid) (first : G.settings.edition ≡ First) (b : Background) where
  first_fixed : (v : ℕ) → fixed_kw G b v ≡ 0
  unfolding fixed_kw runs_as fixed_part
  first_fixed v = ap (λ (e : Edition). over_types (λ plant. fixed_part (runs_as e b plant)) G v) first ∙ none_of G v

  first_variable : variable_tec G b ≡ node_tec G
  unfolding variable_tec runs_as is_variable
  first_variable = ap (λ (e : Edition). tec_of (λ plant. is_variable (runs_as e b plant)) G) first

  first_remaining : remaining G b ≡ total_demand G
  unfolding remaining
  first_remaining = omega (arith, sum_none (length G.nodes) (fixed_kw G b) (λ v h. first_fixed v))

  pub first_generation : (v : ℕ) → generation G b v ≡ scaled (length G.nodes) (node_tec G) (total_demand G) v
  unfolding generation
  first_generation v = omega (
    arith,
    first_fixed v,
    ap₂ (λ (tec : ℕ → ℕ) (d : ℕ). scaled (length G.nodes) tec d v) first_variable first_remaining,
  )

  pub first_scalable : total_demand G ≤ sum (length G.nodes) (node_tec G) → Scalable G b
  first_scalable h = record {
    fixed = omega (arith, sum_none (length G.nodes) (fixed_kw G b) (λ v l. first_fixed v));
    variable = omega (arith, ap (λ (tec : ℕ → ℕ). sum (length G.nodes) tec) first_variable);
  }

-- so of a sound study each background of its edition is scalable, whether 14 asks it or 7 says it
pub scalable_in : (S : Study) → SoundStudy S → (b : Background) → Of b S.settings.edition → Scalable (grid_of S) b
unfolding grid_of
scalable_in S sound b h = go S.settings.edition refl
  where
    go : (e : Edition) → S.settings.edition ≡ e → Scalable (grid_of S) b
    go First e = first_scalable (grid_of S) e b sound.tables.totals.enough
    go Second e = sound.scalable e b
