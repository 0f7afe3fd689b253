-- 01, step 1: the TEC of each node by plant type, from the columns of the stations, and what counts of it by node.
use Rattle.std.specs.Prelude.{◌≡◌, cond, ◌&&◌, List, [], ℕ, suc, ◌+◌, ◌*◌, ◌-◌, ◌/◌, ◌%◌, ◌≤◌, eqb, leb, ltb, get_or}
use Rattle.integers.specs.Numbers.{sum}
use Rattle.meaning.specs.Rows.{◌between◌and◌, rows}
use Rattle.meaning.specs.Columns.{kilowatts, number_at, kw_at}
use Rattle.meaning.specs.Study.{Study}
use Rattle.meaning.specs.Grid.{plant_of, grid_of}
use Rattle.meaning.specs.declared.Kw.{Kw}
use Rattle.meaning.specs.declared.Plant.{Plant}
use Rattle.plants.specs.declared.Counted.{Counted}
use Rattle.plants.specs.Counted.{part_of}

-- seven cells a node, one a plant type; 1,792, which is no cell, where there is no such node or type
unfoldable pub cell_of : (nodes v plant_type : ℕ) → ℕ
cell_of nodes v plant_type = cond (ltb v nodes && plant_type between 1 and 7) (7 * v + plant_type - 1) 1792

-- the TEC that the first stations add to a cell
unfoldable pub cell_tec : (nodes : ℕ) (node plant : List ℕ) (tec : List Kw) (stations cell : ℕ) → ℕ
cell_tec nodes node plant tec stations cell =
    sum stations (λ k. cond (eqb (cell_of nodes (number_at node k) (number_at plant k)) cell) (kw_at tec k) 0)

-- TEC by node and plant type at 7 v + type − 1; 0 past the last node
unfoldable pub types_of : Study → List Kw
types_of S = rows 1792 (λ c. kilowatts (get_or (get_or (grid_of S).capacity (c / 7) []) (c % 7) 0))

-- no cell of a file is above 512 x (2^32 − 1), and of any other column such a cell counts as none
abbrev pub Possible : (by_type : List Kw) → Type 0
Possible by_type = (cell : ℕ) → kw_at by_type cell ≤ 2199023255040

unfoldable pub possible_kw : ℕ → ℕ
possible_kw kw = cond (leb kw 2199023255040) kw 0

-- what counts of the TEC of a plant type, and that seven of them fit 64 bits
pub record Counts (counted : Counted) (plant : Plant) (kw counts : ℕ) : Type 0 where
  pub value : counts ≡ part_of counted plant (possible_kw kw)
  pub low : counts ≤ 2199023255040

-- what counts at node v in its first types
unfoldable pub types_tec : Counted → (by_type : List Kw) (types v : ℕ) → ℕ
types_tec counted by_type types v = sum types (λ t. part_of counted (plant_of (suc t)) (possible_kw (kw_at by_type (7 * v + t))))

-- what counts by node
unfoldable pub by_node : (by_type : List Kw) → Counted → List Kw
by_node by_type counted = rows 256 (λ v. kilowatts (types_tec counted by_type 7 v))
