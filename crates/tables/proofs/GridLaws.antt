-- 6, 7, 13 and 14 of a study whose rows are sound, over its columns.
use mathlib.Core.Path.{◌≡◌, refl, sym, ◌∙◌, ap, ap₂}
use mathlib.Core.Bool.{Bool}
use mathlib.Core.List.{List}
use Prim.Native.Nat.{ℕ, ◌+◌, ◌-◌, ◌≤◌}
use native.Mathlib.Omega.{arith}
use Rattle.integers.specs.Numbers.{sum}
use Rattle.integers.proofs.Sum.{sum-add, sum-le}
use Rattle.meaning.specs.declared.Kw.{Kw}
use Rattle.meaning.specs.declared.Background.{Background}
use Rattle.meaning.specs.declared.Background.TheVariants.{YearRound, Peak}
use Rattle.meaning.specs.declared.System.{System}
use Rattle.meaning.specs.declared.Refusal.TheVariants.{Unscalable}
use Rattle.meaning.specs.Answers.{Judgement}
use Rattle.std.specs.Prelude.{Ok}
use Rattle.meaning.specs.Answers.{◌or_else◌, unless, in_second}
use Rattle.meaning.specs.Columns.{kw_at}
use Rattle.meaning.specs.Grid.{Grid, grid_of, totals_stage, chargeable_stage}
use Rattle.meaning.specs.Generation.{scalable, scaling_stage}
use Rattle.meaning.specs.Network.{network_of}
use Rattle.meaning.specs.Outcome.{grid_stage, tables_stage}
use Rattle.meaning.proofs.Answers.{or_else_same, passes-unless}
use Rattle.meaning.proofs.Generation.{node_runs}
use Rattle.meaning.proofs.Networks.{SameEnds, reach_same}
use Rattle.plants.specs.declared.Counted.{Counted}
use Rattle.plants.specs.declared.Counted.TheVariants.{All, Paying, Fixed, Variable}
use Rattle.station_table.specs.Tec.{by_node}
use Rattle.totals.proofs.TotalLaws.{added_up, some_total, Passed, passed, same_totals}
use Rattle.layout.specs.Readable.{readable}
use Rattle.layout.proofs.Rows.{counts_are, few}
use Rattle.walk.specs.Walk.{walked}
use Rattle.tables.specs.declared.Opened.{Opened}
use Rattle.tables.specs.Order.{frame_stage, rows_after}
use Rattle.tables.specs.Opens.{Columns}
use Rattle.tables.specs.Reads.{totals_of, chargeable_of, scalable_of, scaling_in, grid_in}
use Rattle.tables.proofs.ReadLaws.{StudyColumns, rows_read}
use Rattle.tables.proofs.NetworkLaws.{columns_network}
use Rattle.tables.proofs.NodeLaws.{SameNodes, columns_nodes, all_at, fixed_at, variable_at, total_demand_lem, total_tec_lem, total_paying, total_fixed_lem, total_variable_lem}
use Rattle.tables.proofs.OrderLaws.{rows_pass}

module _ (file : List ℕ) {a : Opened} (t : StudyColumns (readable file) a) where
  abbrev G : Grid
  G = grid_of (readable file)

  nodes : SameNodes G a
  nodes = columns_nodes t (omega (arith, (counts_are file t.counts).0, (few file t.counts).nodes_low))

  -- 6: the ends that were read are the study's, and none is cut off
  ends_are : SameEnds (walked a.counts.nodes (a.settings.reference - 1) a.counts.circuits a.circuits.first a.circuits.second) (network_of (grid_of (readable file)))
  ends_are =
      let f = few file t.counts in
      let e = (columns_network t (omega (arith, (counts_are file t.counts).1, f.circuits_low))).ends in
      record {
        nodes = omega (arith, e.nodes, f.nodes_low);
        circuits = omega (arith, e.circuits, f.circuits_low);
        reference = e.reference;
        first = λ c h. e.first c (omega arith);
        second = λ c h. e.second c (omega arith);
      }

  abbrev n : ℕ
  n = a.counts.nodes

  abbrev column : Counted → List Kw
  column = by_node a.by_type

  totals_are : totals_of n a.nodes.demand (column All) ≡ totals_stage G
  unfolding totals_stage
  totals_are = rw (same_totals n a.nodes.demand (column All) (few file t.counts).nodes_low, total_demand_lem nodes, total_tec_lem nodes) refl

  chargeable_is : chargeable_of n (column Paying) ≡ chargeable_stage G
  unfolding chargeable_stage
  chargeable_is = rw (some_total n (column Paying) (few file t.counts).nodes_low, total_paying nodes) refl

  -- 14, once 7 has passed: TEC is in its range, and what runs is at most TEC, so no total is cut off
  module _ (p : totals_of n a.nodes.demand (column All) ≡ Ok tt) where
    sums : Passed n a.nodes.demand (column All)
    sums = passed n _ _ ((passes-unless _ _).0 p)

    module _ (b : Background) where
      abbrev fixed : List Kw
      fixed = column (Fixed a.settings.edition b)

      abbrev variable : List Kw
      variable = column (Variable a.settings.edition b)

      runs_low : sum n (kw_at fixed) + sum n (kw_at variable) ≤ 100000000
      runs_low = omega (
        arith,
        sums.most,
        sum-add n (kw_at fixed) (kw_at variable),
        sum-le n (λ v. kw_at fixed v + kw_at variable v) (kw_at (column All))
            (λ v h. omega (arith, node_runs G b v, fixed_at nodes b v h, variable_at nodes b v h, all_at nodes v h)),
      )

      scalable_is : scalable_of n fixed variable a.nodes.demand ≡ scalable G b
      unfolding scalable
      scalable_is =
          rw (
            ← added_up n fixed sums.few (omega (arith, runs_low)),
            ← added_up n variable sums.few (omega (arith, runs_low)),
            sums.demand_is,
            total_fixed_lem nodes b,
            total_variable_lem nodes b,
            total_demand_lem nodes,
          ) refl

    scaling_is : scaling_in a.settings.edition n a.by_type a.nodes.demand ≡ scaling_stage G
    unfolding scaling_stage
    scaling_is =
        let asked : Bool → Judgement = λ test. unless test Unscalable in
        ap₂ in_second nodes.edition (ap₂ ◌or_else◌ (ap asked (scalable_is YearRound)) (ap asked (scalable_is Peak)))

  grid_judgement : grid_in a ≡ grid_stage G
  unfolding grid_stage
  grid_judgement =
      ap₂ ◌or_else◌ (reach_same ends_are)
      (or_else_same (totals_of n a.nodes.demand (column All)) (λ p. ap₂ ◌or_else◌ chargeable_is (scaling_is p))
      ∙ ap (λ (r : Judgement). r or_else chargeable_stage G or_else scaling_stage G) totals_are)

-- ---- a file whose frame and rows were judged, and read: 6, 7, 13 and 14 decide
pub grid_decides : {file : List ℕ} (long : System → ℕ) {before after : Opened} → Columns (frame_stage file long) file before after
    → {x y : Judgement} → x ≡ (frame_stage file long or_else rows_after (readable file)) → x ≡ Ok tt → y ≡ grid_in after → tables_stage file long ≡ y
grid_decides {file} long t e h g = rows_pass file long e h ∙ sym (grid_judgement file (rows_read t (sym e ∙ h))) ∙ sym g
