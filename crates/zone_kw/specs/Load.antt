-- 02, request 6: the kilowatts of the shared tariff, over columns as code has them.
use Rattle.std.specs.Prelude.{cond, List, ℕ, suc, ◌+◌, ◌*◌, ◌/◌, ◌≤◌}
use Rattle.integers.specs.Numbers.{sum}
use Rattle.meaning.specs.declared.Kw.{Kw}
use Rattle.meaning.specs.declared.Plant.{Plant}
use Rattle.meaning.specs.Columns.{kilowatts, number_at, kw_at}
use Rattle.meaning.specs.Grid.{plant_of, pays}
use Rattle.meaning.specs.Rows.{rows}
use Rattle.plants.specs.declared.Counted.TheVariants.{Of}
use Rattle.station_table.specs.Tec.{by_node}
use Rattle.zone_kw.specs.ByZone.{kept, by_zone}

-- a plant type's chargeable TEC "times that load factor", "0 to 1,000 thousandths": in thousandths of a kilowatt
unfoldable pub load_of : Plant → (kw factor : ℕ) → ℕ
load_of plant kw factor = cond (pays plant) (kw * kept 1000 factor) 0

-- what was added up and one plant type more fit 64 bits
pub record Room (sums : List ℕ) (kw : List Kw) : Type 0 where
  pub added : (k : ℕ) → number_at sums k ≤ 1000000000000000
  pub more : (k : ℕ) → kw_at kw k ≤ 25600000000

-- the sums of the zones with a plant type more
unfoldable pub with_type : (sums : List ℕ) → Plant → (kw : List Kw) (factor : ℕ) → List ℕ
with_type sums plant kw factor = rows 32 (λ k. number_at sums k + load_of plant (kw_at kw k) factor)

module _ (n : ℕ) (zone : List ℕ) (by_type : List Kw) where
  -- TEC of a plant type by zone
  abbrev pub type_kw : Plant → List Kw
  type_kw plant = by_zone n zone (by_node by_type (Of plant))

  module _ (factors : List ℕ) where
    -- "added up" over the first types, zone k + 1 at k
    unfoldable pub loaded : (types k : ℕ) → ℕ
    loaded types k = sum types (λ t. load_of (plant_of (suc t)) (kw_at (type_kw (plant_of (suc t))) k) (number_at factors t))

    -- "and rounded down to a kilowatt"
    unfoldable pub shared_kw : List Kw
    shared_kw = rows 32 (λ k. kilowatts (loaded 7 k / 1000))
