-- TEC by plant type: what a grid has of each type, and who pays.
use mathlib.Core.Path.{◌≡◌, refl, sym, ◌∙◌, ap}
use mathlib.Core.Bool.{Bool, true, false, cond, true≢false}
use mathlib.Core.List.{[]}
use Prim.Native.Nat.{ℕ, suc, ◌+◌, ◌≤◌, ◌<◌}
use native.Mathlib.Omega.{arith}
use lib.ListN.{length, get_or}
use Rattle.integers.specs.Numbers.{sum}
use Rattle.integers.proofs.Sum.{sum-le, sum_none}
use Rattle.meaning.specs.declared.Background.{Background}
use Rattle.meaning.specs.declared.Background.TheVariants.{YearRound, Peak}
use Rattle.meaning.specs.declared.Plant.{Plant}
use Rattle.meaning.specs.Rows.{rows}
use Rattle.meaning.specs.Study.{Study}
use Rattle.meaning.specs.Grid.{Grid, plant_of, pays, pays_in, capacity_of, grid_of, over_types, tec_of, node_tec, paying_tec, paying_tec_in}
use Rattle.meaning.proofs.Rows.{rows_at, rows_past}

-- TEC at node v of type t + 1, as a grid has it
abbrev pub capacity_at : Grid → (v t : ℕ) → ℕ
capacity_at G v t = get_or (get_or G.capacity v []) t 0

pub capacity_at_lem : (S : Study) (v t : ℕ) → v < length S.nodes → t < 7 → capacity_at (grid_of S) v t ≡ capacity_of S v (suc t)
unfolding grid_of
capacity_at_lem S v t h l = rw (rows_at [] (length S.nodes) (λ v. rows 7 (λ t. capacity_of S v (suc t))) v h) (rows_at 0 7 _ t l)

pub capacity_past : (S : Study) (v t : ℕ) → length S.nodes ≤ v → capacity_at (grid_of S) v t ≡ 0
unfolding grid_of
capacity_past S v t h = rw (rows_past [] (length S.nodes) (λ v. rows 7 (λ t. capacity_of S v (suc t))) v h) refl

-- more of each type is more in all
pub types_le : (f g : Plant → ℕ → ℕ) → ((plant : Plant) (kw : ℕ) → f plant kw ≤ g plant kw) → (G : Grid) (v : ℕ) → over_types f G v ≤ over_types g G v
unfolding over_types
types_le f g h G v = sum-le 7 _ _ (λ t l. h (plant_of (suc t)) (capacity_at G v t))

-- of two tests, one that says more
pub tec_le : {f g : Plant → Bool} → ((plant : Plant) → f plant ≡ true → g plant ≡ true) → (G : Grid) (v : ℕ) → tec_of f G v ≤ tec_of g G v
tec_le {f} {g} h = types_le _ _ (λ plant kw. go (f plant) (g plant) (h plant) kw)
  where
    go : (a b : Bool) → (a ≡ true → b ≡ true) → (kw : ℕ) → cond a kw 0 ≤ cond b kw 0
    go true true e kw = omega arith
    go true false e kw = absurd (true≢false (sym (e refl)))
    go false b e kw = omega arith

-- a node that is not there has no TEC
pub types_past : (S : Study) (part : Plant → ℕ → ℕ) → ((plant : Plant) → part plant 0 ≡ 0) → (v : ℕ) → length S.nodes ≤ v → over_types part (grid_of S) v ≡ 0
unfolding over_types
types_past S part none v h = sum_none 7 _ (λ t l. ap (part (plant_of (suc t))) (capacity_past S v t h) ∙ none (plant_of (suc t)))

module _ (G : Grid) (v : ℕ) where
  -- 02, request 1: all TEC weighs, and all but type 3 pays
  pub all_weigh : node_tec G v ≡ sum 7 (capacity_at G v)
  unfolding over_types sum plant_of
  all_weigh = omega arith

  pub all_but_three_pay : paying_tec G v + capacity_at G v 2 ≡ node_tec G v
  unfolding over_types sum plant_of pays
  all_but_three_pay = omega arith

  pub node_pays : paying_tec G v ≤ node_tec G v
  node_pays = omega (arith, all_but_three_pay)

  -- 02, request 5: year round all of these pay, and at peak all but type 1
  pub year_round_pays : paying_tec_in YearRound G v ≡ paying_tec G v
  unfolding pays_in
  year_round_pays = refl

  pub all_but_one_pay : paying_tec_in Peak G v + capacity_at G v 0 ≡ paying_tec G v
  unfolding over_types sum plant_of pays pays_in
  all_but_one_pay = omega arith

  pub background_pays : (b : Background) → paying_tec_in b G v ≤ paying_tec G v
  background_pays YearRound = omega (arith, year_round_pays)
  background_pays Peak = omega (arith, all_but_one_pay)
