-- The case of a study's columns: what its tables say, if they are sound.
use mathlib.Core.Path.{◌≡◌, refl, ◌∙◌, ap, ap₂}
use mathlib.Core.Bool.{cond}
use mathlib.Core.List.{List}
use Prim.Native.Nat.{ℕ, ◌+◌, ◌*◌, ◌-◌, ◌/◌, ◌%◌, ◌≤◌, ◌<◌}
use native.Mathlib.Omega.{arith}
use lib.Dec.{eqb}
use lib.IntN.{ℤ, pos, ◌-ℤ◌, ◌*ℤ◌}
use lib.ListN.{length, get_or, replicate}
use Rattle.integers.specs.Numbers.{sum}
use Rattle.integers.proofs.Sum.{sum_same, sum-le}
use Rattle.meaning.specs.declared.Background.{Background}
use Rattle.meaning.specs.declared.Background.TheVariants.{YearRound, Peak}
use Rattle.meaning.specs.declared.Edition.{Edition}
use Rattle.meaning.specs.declared.Edition.TheVariants.{First, Second}
use Rattle.meaning.specs.declared.Kw.{Kw}
use Rattle.meaning.specs.declared.Settings.{Settings}
use Rattle.meaning.specs.declared.System.TheVariants.{Base}
use Rattle.meaning.specs.Editions.{Of}
use Rattle.meaning.specs.Study.{Study, Runs, circuit}
use Rattle.meaning.specs.Grid.{grid_of, node_tec}
use Rattle.meaning.specs.Network.{network_of}
use Rattle.meaning.specs.Scaled.{whole_share, left_over, missing, scaled}
use Rattle.meaning.specs.Generation.{variable_tec, remaining, generation, net}
use Rattle.meaning.specs.Systems.{supply}
use Rattle.meaning.specs.Direction.{expanded_length}
use Rattle.meaning.specs.Conditions.{Scalable, SoundSettings, SoundCircuit, SoundStudy}
use Rattle.meaning.proofs.Says.{says_le, ◌also◌}
use Rattle.meaning.proofs.Generation.{node_runs, scalable_in}
use Rattle.meaning.proofs.Networks.{SameNetwork}
use Rattle.meaning.proofs.Lengths.{overhead_in, cable_in, has_length_lem}
use Rattle.sizes.proofs.Scaling.{systems_fit}
use Rattle.layout.specs.declared.RowCounts.{RowCounts}
use Rattle.circuit_table.specs.declared.CircuitColumns.{CircuitColumns}
use Rattle.circuit_table.specs.Lengths.{length_in_range, length_if_in_range}
use Rattle.circuit_table.specs.Columns.{circuits_of}
use Rattle.meaning.specs.Columns.{kw_at, network_in}
use Rattle.plants.specs.declared.Counted.TheVariants.{Fixed, Variable}
use Rattle.station_table.specs.Tec.{by_node}
use Rattle.tables.specs.declared.Opened.{Opened}
use Rattle.tables.proofs.ReadLaws.{StudyColumns}
use Rattle.tables.proofs.NetworkLaws.{columns_network}
use Rattle.tables.proofs.NodeLaws.{SameNodes, columns_nodes, fixed_at, variable_at, total_demand_lem, total_fixed_lem, total_variable_lem}
use Rattle.numbers.specs.Numbers.{by_background}
use Rattle.flows.specs.Flows.{number}
use Rattle.supply.proofs.Bounds.{Runs as Running, base_supply_at}
use Rattle.proposal.specs.Case.{background_supply, peak_supply, case_of}
use Rattle.proposal.proofs.Told.{Told, of_rows}

-- ---- step 1 sees the TEC of the n nodes alone
module _ (n : ℕ) (f g : ℕ → ℕ) (demand : ℕ) (e : (v : ℕ) → v < n → f v ≡ g v) where
  share_same : (v : ℕ) → v < n → whole_share n f demand v ≡ whole_share n g demand v
  unfolding whole_share
  share_same v h = ap₂ (λ (a t : ℕ). a * demand / t) (e v h) (sum_same n f g e)

  over_same : (v : ℕ) → v < n → left_over n f demand v ≡ left_over n g demand v
  unfolding left_over
  over_same v h = ap₂ (λ (a t : ℕ). cond (eqb (a * demand % t) 0) 0 1) (e v h) (sum_same n f g e)

  missing_same : missing n f demand ≡ missing n g demand
  unfolding missing
  missing_same = ap (λ (a : ℕ). demand - a) (sum_same n (whole_share n f demand) (whole_share n g demand) share_same)

  scaled_same : (v : ℕ) → v < n → scaled n f demand v ≡ scaled n g demand v
  unfolding scaled
  scaled_same v h = rw (share_same v h, over_same v h, missing_same, sum_same v (left_over n f demand) (left_over n g demand) (λ i l. over_same i (omega arith))) refl

-- ---- peak's supply, by the edition
module _ (n : ℕ) (by_type demand : List Kw) where
  pub no_peak : {e : Edition} → e ≡ First → replicate 256 (pos 0) ≡ peak_supply e n by_type demand
  unfolding peak_supply
  no_peak h = rw h refl

  pub some_peak : {e : Edition} → e ≡ Second → background_supply e Peak n by_type demand ≡ peak_supply e n by_type demand
  unfolding peak_supply
  some_peak h = rw h refl

  in_peak : (e : Edition) → Of Peak e → peak_supply e n by_type demand ≡ background_supply e Peak n by_type demand
  unfolding peak_supply
  in_peak First h = absurd h
  in_peak Second h = refl

-- a sound row's length is in range
long_is : (S : Study) → SoundSettings (length S.nodes) S.settings → (i : ℕ) → SoundCircuit S i
    → length_if_in_range S.settings (circuit S.circuits i) ≡ expanded_length S.settings (circuit S.circuits i)
unfolding length_if_in_range length_in_range
long_is S sound i row =
    rw ((says_le also says_le also says_le also says_le).1 (((row.overhead, row.cable), (overhead_in S.settings _ sound S i row).most), (cable_in S.settings _ sound S i row).most)) refl

module _ (S : Study) (sound : SoundStudy S) (few : length S.nodes ≤ 256) (fewer : length S.circuits ≤ 512)
    (o : Opened) (t : StudyColumns S o) where
  abbrev rows : RowCounts
  rows = o.counts

  abbrev settings : Settings
  settings = o.settings

  abbrev ends : CircuitColumns
  ends = o.circuits

  -- nodes, reference, ends and reactances are the grid's
  network : SameNetwork (network_in rows.nodes rows.circuits (settings.reference - 1) ends.first ends.second ends.x) (network_of (grid_of S))
  network = columns_network t fewer

  -- demand and TEC of the nodes are the grid's
  told : SameNodes (grid_of S) o
  told = columns_nodes t few

  node_count : rows.nodes ≡ length S.nodes
  unfolding grid_of
  node_count = told.nodes

  circuit_count : rows.circuits ≡ length S.circuits
  unfolding network_of grid_of
  circuit_count = network.ends.circuits

  pub reference_least : 1 ≤ settings.reference
  reference_least = omega (arith, ap (λ (s : Settings). s.reference) t.settings, sound.tables.settings.reference.least)

  -- ---- step 3 in a background of the edition
  module _ (b : Background) (h : Of b S.settings.edition) where
    abbrev fixed : List Kw
    fixed = by_node o.by_type (Fixed settings.edition b)

    abbrev variable : List Kw
    variable = by_node o.by_type (Variable settings.edition b)

    can_scale : Scalable (grid_of S) b
    can_scale = scalable_in S sound b h

    -- 7 and 14 have passed the totals
    running : Running (sum rows.nodes (kw_at fixed)) (sum rows.nodes (kw_at variable)) (sum rows.nodes (kw_at o.nodes.demand))
    unfolding grid_of
    running = rw (total_fixed_lem told b, total_variable_lem told b, total_demand_lem told) (record {
      demand_most = sound.tables.totals.demand_total.most;
      variable_most_lem = omega (
        arith,
        sum-le (length S.nodes) (variable_tec (grid_of S) b) (node_tec (grid_of S)) (λ v l. omega (arith, node_runs (grid_of S) b v)),
        sound.tables.totals.tec_total.most,
      );
      below = can_scale.fixed;
      enough = can_scale.variable;
    })

    supplied : (v : ℕ) → v < rows.nodes → get_or (background_supply settings.edition b rows.nodes o.by_type o.nodes.demand) v (pos 0) ≡ supply (grid_of S) (Base b) v
    unfolding background_supply supply net generation remaining grid_of
    supplied v l =
        base_supply_at rows.nodes fixed variable o.nodes.demand (omega (arith, node_count)) running v l
        ∙ ap₂ (λ (a d : ℕ). pos 1000000 *ℤ (pos a -ℤ pos d))
        (ap₂ ◌+◌ (fixed_at told b v l)
        (scaled_same rows.nodes (kw_at variable) (variable_tec (grid_of S) b) _ (variable_at told b) v l
        ∙ rw (total_demand_lem told, total_fixed_lem told b, told.nodes) refl))
        (told.demand v l)

  edition_is : settings.edition ≡ S.settings.edition
  edition_is = ap (λ (s : Settings). s.edition) t.settings

  both_supplied : (b : Background) → Of b S.settings.edition → (v : ℕ) → v < rows.nodes
      → number (by_background (case_of o).supply (case_of o).peak_supply b) v ≡ supply (grid_of S) (Base b) v
  unfolding case_of
  both_supplied YearRound h v l = supplied YearRound h v l
  both_supplied Peak h v l =
      ap (λ (s : List ℤ). number s v) (in_peak rows.nodes o.by_type o.nodes.demand settings.edition (rw edition_is h))
      ∙ supplied Peak h v l

  pub case_told : Runs → Told (grid_of S) (case_of o)
  unfolding case_of circuits_of grid_of
  case_told runs =
      record {
        edition = edition_is;
        network = rw circuit_count at network;
        lengths = λ c h. of_rows 0 512 _ _ ends.length fewer (ap (λ (e : CircuitColumns). e.length) t.circuits) c h
            ∙ long_is S sound.tables.settings c (sound.tables.circuits c h);
        some = λ c h. has_length_lem S.settings _ sound.tables.settings S c (sound.tables.circuits c h);
        short = (systems_fit S sound runs).expanded;
        marks = of_rows 0 512 _ _ ends.mark fewer (ap (λ (e : CircuitColumns). e.mark) t.circuits);
        supply = both_supplied;
      }
