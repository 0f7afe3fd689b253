use Rattle.std.proofs.Common.{sym, ap}
use Prim.Native.Nat.{ℕ, ◌<◌, ◌^◌}
use native.Mathlib.Omega.{arith}
use Rattle.meaning.specs.Columns.{kw_at}
use Rattle.layout.proofs.Rows.{nodes_from, nodes_few, stations_from, stations_few}
use Rattle.station_table.specs.declared.StationColumns.{StationColumns}
use Rattle.station_table.proofs.TecLaws.{cells_all, tec_below, by_type_is}
use Rattle.station_table.proofs.judge.Goals as goal

pub by_type-requires : goal.by_type-requires
by_type-requires c =
    -- a station's TEC is a u32
    let below : (k : ℕ) → kw_at c.columns-columns.result.tec k < 2 ^ 32 =
    tec_below c.args.file.now (λ i. omega (arith, c.shared_slice_known-1.given i)) c.columns-columns.ensures in
    (nodes_few _ c.section-nodes.ensures, stations_few _ c.section-rows.ensures, below)

pub stage-judged-requires : goal.stage-judged-requires
stage-judged-requires c =
    record {
      nodes = sym (nodes_from _ c.section-nodes.ensures).count;
      section = c.section-rows.ensures;
      column = ap (λ (s : StationColumns). s.node) c.columns-columns.ensures;
    }

pub returns-clause-summed : goal.returns-clause-summed
returns-clause-summed c =
    let nodes = nodes_from _ c.section-nodes.ensures in
    let stations = stations_from _ c.section-rows.ensures in
    let few = stations_few _ c.section-rows.ensures in
    by_type_is _ _ _ _ _ (sym nodes.count) (sym stations.count) c.columns-columns.ensures few c.by_type.ensures

pub returns-clause-possible : goal.returns-clause-possible
returns-clause-possible c =
    -- a station's TEC is a u32
    let below : (k : ℕ) → kw_at c.columns-columns.result.tec k < 2 ^ 32 =
    tec_below c.args.file.now (λ i. omega (arith, c.shared_slice_known-1.given i)) c.columns-columns.ensures in
    λ cell. cells_all _ _ _ _ _ cell c.by_type.ensures below (stations_few _ c.section-rows.ensures)
