-- The columns of the stations and of TEC, row by row.
use mathlib.Core.Path.{◌≡◌, ap}
use mathlib.Core.List.{[]}
use Prim.Native.Nat.{ℕ, ◌/◌, ◌%◌, ◌<◌}
use lib.ListN.{get_or}
use Rattle.meaning.specs.Study.{Study, station}
use Rattle.meaning.specs.Grid.{place, grid_of}
use Rattle.meaning.proofs.Rows.{rows_at}
use Rattle.meaning.specs.Columns.{kilowatts, number_at, kw_at}
use Rattle.station_table.specs.Columns.{stations_of}
use Rattle.station_table.specs.Tec.{types_of}

module _ (S : Study) where
  module _ (k : ℕ) (h : k < 512) where
    pub station_node_at : number_at (stations_of S).node k ≡ place S.nodes (station S.stations k).node
    unfolding stations_of
    station_node_at = rows_at 0 512 _ k h

    pub plant_at : number_at (stations_of S).plant k ≡ (station S.stations k).plant_type
    unfolding stations_of
    plant_at = rows_at 0 512 _ k h

    pub tec_at_lem : kw_at (stations_of S).tec k ≡ (station S.stations k).tec
    unfolding stations_of
    tec_at_lem = ap (λ w. w.0) (rows_at (kilowatts 0) 512 (λ k. kilowatts (station S.stations k).tec) k h)

  -- the cell of a node and a plant type
  pub by_type_at : (c : ℕ) → c < 1792 → kw_at (types_of S) c ≡ get_or (get_or (grid_of S).capacity (c / 7) []) (c % 7) 0
  unfolding types_of
  by_type_at c h = ap (λ w. w.0) (rows_at (kilowatts 0) 1792 (λ c. kilowatts (get_or (get_or (grid_of S).capacity (c / 7) []) (c % 7) 0)) c h)
