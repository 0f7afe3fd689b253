-- The columns which were read are the nodes of the study's grid: what 7, 13 and 14 add up, and what the steps scale, weigh and charge.
use mathlib.Core.Path.{◌≡◌, refl, ◌∙◌, ap}
use mathlib.Core.Bool.{not}
use Prim.Native.Nat.{ℕ, suc, ◌≤◌, ◌<◌}
use native.Mathlib.Omega.{arith}
use lib.ListN.{length}
use Rattle.integers.specs.Numbers.{sum}
use Rattle.integers.proofs.Sum.{sum_same}
use Rattle.meaning.specs.declared.Kw.{Kw}
use Rattle.meaning.specs.declared.Background.{Background}
use Rattle.meaning.specs.declared.Background.TheVariants.{Peak}
use Rattle.meaning.specs.Study.{Study, node}
use Rattle.meaning.specs.Columns.{kilowatts, number_at, kw_at}
use Rattle.meaning.specs.Grid.{Grid, plant_of, grid_of, over_types, tec_of, node_tec, paying_tec, paying_tec_in, node_demand, total_tec, total_paying_tec, total_demand}
use Rattle.meaning.specs.Generation.{fixed_kw, variable_tec, total_fixed, total_variable}
use Rattle.meaning.specs.Figures.{low_carbon}
use Rattle.meaning.proofs.Plants.{capacity_at}
use Rattle.meaning.proofs.Rows.{rows_at}
use Rattle.layout.specs.Frame.{counts_of}
use Rattle.node_table.specs.Columns.{nodes_of}
use Rattle.plants.specs.declared.Counted.{Counted}
use Rattle.plants.specs.declared.Counted.TheVariants.{All, Paying, PayingAtPeak, Fixed, Variable, LowCarbon, Carbon, Of}
use Rattle.plants.specs.Counted.{part_of}
use Rattle.plants.proofs.PlantLaws.{all_tec, paying_tec_lem, peak_tec, fixed_tec, variable_tec_lem, low_tec, carbon_tec, type_tec}
use Rattle.station_table.specs.Tec.{by_node}
use Rattle.station_table.proofs.TecLaws.{by_node_at}
use Rattle.tables.specs.declared.Opened.{Opened}
use Rattle.tables.proofs.ReadLaws.{StudyColumns}

-- the columns of a grid's nodes; of TEC, whatever counts of it
pub record SameNodes (G : Grid) (o : Opened) : Type 0 where
  pub edition : o.settings.edition ≡ G.settings.edition
  pub nodes : o.counts.nodes ≡ length G.nodes
  pub generation_zone : (v : ℕ) → v < o.counts.nodes → number_at o.nodes.generation_zone v ≡ (node G.nodes v).generation_zone
  pub demand_zone : (v : ℕ) → v < o.counts.nodes → number_at o.nodes.demand_zone v ≡ (node G.nodes v).demand_zone
  pub demand : (v : ℕ) → v < o.counts.nodes → kw_at o.nodes.demand v ≡ node_demand G v
  pub counted : (k : Counted) (v : ℕ) → v < o.counts.nodes → kw_at (by_node o.by_type k) v ≡ over_types (part_of k) G v

-- a column has room for 256 nodes
pub columns_nodes : {S : Study} {o : Opened} → StudyColumns S o → length S.nodes ≤ 256 → SameNodes (grid_of S) o
unfolding counts_of nodes_of grid_of
columns_nodes {S} {o} t few =
    let n : o.counts.nodes ≡ length S.nodes = rw t.counts refl in
    record {
      edition = rw t.settings refl;
      nodes = n;
      generation_zone = λ v h. rw t.nodes (rows_at 0 256 _ v (omega (arith, n)));
      demand_zone = λ v h. rw t.nodes (rows_at 0 256 _ v (omega (arith, n)));
      demand = λ v h. rw t.nodes (ap (λ (x : Kw). x.0) (rows_at (kilowatts 0) 256 _ v (omega (arith, n))));
      counted = λ k v h. by_node_at S o.by_type t.by_type t.possible k v (omega (arith, n));
    }

module _ {G : Grid} {o : Opened} (s : SameNodes G o) where
  abbrev n : ℕ
  n = o.counts.nodes

  abbrev column : Counted → ℕ → ℕ
  column k = kw_at (by_node o.by_type k)

  -- what counts at a node: a column by its name in the definitions
  named : (k : Counted) {f : ℕ → ℕ} → over_types (part_of k) G ≡ f → (v : ℕ) → v < n → column k v ≡ f v
  named k e v h = s.counted k v h ∙ ap (λ (f : ℕ → ℕ). f v) e

  pub all_at : (v : ℕ) → v < n → column All v ≡ node_tec G v
  all_at = named All (all_tec G)

  pub paying_at : (v : ℕ) → v < n → column Paying v ≡ paying_tec G v
  paying_at = named Paying (paying_tec_lem G)

  pub paying_at_peak_at : (v : ℕ) → v < n → column PayingAtPeak v ≡ paying_tec_in Peak G v
  paying_at_peak_at = named PayingAtPeak (peak_tec G)

  -- 02, request 6: low carbon TEC, carbon TEC, and that of type t + 1
  pub low_at : (v : ℕ) → v < n → column LowCarbon v ≡ tec_of low_carbon G v
  low_at = named LowCarbon (low_tec G)

  pub carbon_at : (v : ℕ) → v < n → column Carbon v ≡ tec_of (λ plant. not (low_carbon plant)) G v
  carbon_at = named Carbon (carbon_tec G)

  pub type_at : (t : ℕ) → t < 7 → (v : ℕ) → v < n → column (Of (plant_of (suc t))) v ≡ capacity_at G v t
  type_at t h v l = s.counted (Of (plant_of (suc t))) v l ∙ type_tec G v t h

  pub fixed_at : (b : Background) (v : ℕ) → v < n → column (Fixed o.settings.edition b) v ≡ fixed_kw G b v
  fixed_at b = rw s.edition (named (Fixed G.settings.edition b) (fixed_tec G b))

  pub variable_at : (b : Background) (v : ℕ) → v < n → column (Variable o.settings.edition b) v ≡ variable_tec G b v
  variable_at b = rw s.edition (named (Variable G.settings.edition b) (variable_tec_lem G b))

  -- totals over the nodes
  total_of : {f g : ℕ → ℕ} → ((v : ℕ) → v < n → f v ≡ g v) → sum n f ≡ sum (length G.nodes) g
  total_of h = sum_same n _ _ h ∙ rw s.nodes refl

  pub total_demand_lem : sum n (kw_at o.nodes.demand) ≡ total_demand G
  total_demand_lem = total_of s.demand

  pub total_tec_lem : sum n (column All) ≡ total_tec G
  total_tec_lem = total_of all_at

  pub total_paying : sum n (column Paying) ≡ total_paying_tec G
  total_paying = total_of paying_at

  pub total_paying_at_peak : sum n (column PayingAtPeak) ≡ sum (length G.nodes) (paying_tec_in Peak G)
  total_paying_at_peak = total_of paying_at_peak_at

  pub total_fixed_lem : (b : Background) → sum n (column (Fixed o.settings.edition b)) ≡ total_fixed G b
  total_fixed_lem b = total_of (fixed_at b)

  pub total_variable_lem : (b : Background) → sum n (column (Variable o.settings.edition b)) ≡ total_variable G b
  total_variable_lem b = total_of (variable_at b)
