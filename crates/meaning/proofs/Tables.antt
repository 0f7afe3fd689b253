-- Stages 2 to 7, 13 and 14 pass exactly when the study is sound, as the conditions say it.
use mathlib.Core.Path.{◌≡◌, refl, sym, ◌∙◌, ap}
use mathlib.Core.Logic.{◌⊎◌, inl, inr, ◌↔◌, ◌≢◌}
use mathlib.Core.List.{List, [], ◌∷◌}
use mathlib.Core.Option.{Option, get_or}
use mathlib.Core.Bool.{Bool, true, false, not, true≢false}
use Prim.Native.Nat.{ℕ, ◌≤◌, ◌<◌}
use native.Mathlib.Omega.{arith}
use lib.Dec.{ltb}
use lib.ListN.{length}
use borrow.Author.Tests.{lt-ltb, le-ltb}
use Rattle.meaning.specs.Rows.{found}
use Rattle.meaning.specs.Name.{Name, same_name}
use Rattle.meaning.specs.declared.Settings.{Settings}
use Rattle.meaning.specs.Study.{Node, Study, node, circuit, station}
use Rattle.meaning.specs.declared.Edition.{Edition}
use Rattle.meaning.specs.declared.Edition.TheVariants.{First, Second}
use Rattle.meaning.specs.declared.Background.{Background}
use Rattle.meaning.specs.declared.Background.TheVariants.{YearRound, Peak}
use Rattle.meaning.specs.declared.Refusal.TheVariants.{BadSetting, BadNode, BadCircuit, BadStation, Unreached, BadTotal, NoChargeableTec, Unscalable}
use Rattle.std.specs.Prelude.{Ok}
use Rattle.meaning.specs.Tables.{seen_earlier, known, sound_scales, sound_settings, sound_node_row, new_voltage, sound_voltage, sound_factor, sound_circuit_row, sound_station_row, sound_node, sound_circuit, sound_station, settings_stage, nodes_stage, circuits_stage, stations_stage}
use Rattle.meaning.specs.Grid.{Grid, grid_of, place, sound_totals, totals_stage, chargeable_stage, total_demand, total_tec}
use Rattle.meaning.specs.Network.{network_of, reach_stage}
use Rattle.meaning.specs.Answers.{unless}
use Rattle.meaning.specs.Generation.{scalable, scaling_stage}
use Rattle.meaning.specs.Outcome.{rows_stage, grid_stage}
use Rattle.meaning.specs.Conditions.{InRange, Known, NewVoltage, SoundSettings, SoundNode, SoundCircuit, SoundStation, SoundTables, Scalable, SoundStudy}
use Rattle.meaning.specs.Refusals.{whole, AllMet, only_second, rows_order, scaling_order, grid_order}
use Rattle.meaning.proofs.Rows.{Lowest, nothing, first, lowest_is, lowest_stops}
use Rattle.meaning.proofs.Systems.{first≢second}
use Rattle.meaning.proofs.Walk.{Placed, reached_is}
use Rattle.meaning.proofs.Order.{Judges, ◌before◌, judges_second, judges_whole, judges_rows}
use Rattle.meaning.proofs.Says.{Says, says_as, ◌also◌, ◌either◌, says_not, says_le, says_eq, says_between, says_any, says_name, says_well_formed}

-- ---- settings, and each row
says_settings : (nodes : ℕ) (s : Settings) → Says (sound_settings nodes s) (SoundSettings nodes s)
unfolding sound_settings sound_scales
says_settings nodes s =
    says_as
    (says_between also says_between also says_le also says_between also says_between also says_between also says_eq also says_between
    also says_between also says_between also says_between also says_between also says_between also says_le)
    (λ t. record { generation_zones = t.0.0.0.0.0.0.0.0.0.0.0.0.0; demand_zones = t.0.0.0.0.0.0.0.0.0.0.0.0.1; p = t.0.0.0.0.0.0.0.0.0.0.0.1; constant = t.0.0.0.0.0.0.0.0.0.0.1; wider_factor = t.0.0.0.0.0.0.0.0.0.1; local_factor = t.0.0.0.0.0.0.0.0.1; overhead400 = t.0.0.0.0.0.0.0.1; cable400 = t.0.0.0.0.0.0.1; overhead275 = t.0.0.0.0.0.1; cable275 = t.0.0.0.0.1; overhead132 = t.0.0.0.1; cable132 = t.0.0.1; reference = t.0.1; revenue = t.1 }, λ r. (((((((((((((r.generation_zones, r.demand_zones), r.p), r.constant), r.wider_factor), r.local_factor), r.overhead400), r.cable400), r.overhead275), r.cable275), r.overhead132), r.cable132), r.reference), r.revenue))

module _ (S : Study) where
  says_known : (name : Name) → Says (known S.nodes name) (Known S name)
  unfolding known
  says_known name =
      says_as (says_any (length S.nodes) (λ v. says_name (node S.nodes v).name name))
      (λ w. record { place = w.0; is_node = w.1; named = w.2 }, λ k. (k.place, k.is_node, k.named))

  says_new : (name : ℕ → Name) (i : ℕ) → Says (not (seen_earlier name i)) ((j : ℕ) → j < i → name j ≢ name i)
  unfolding seen_earlier
  says_new name i = says_as (says_not (says_any i (λ j. says_name (name j) (name i)))) (λ f j k e. f (j, k, e), λ f w. f w.0 w.1 w.2)

  says_node : (i : ℕ) → Says (sound_node S i) (SoundNode S i)
  unfolding sound_node sound_node_row
  says_node i =
      says_as
      (says_well_formed (node S.nodes i).name also says_between also says_between also says_le also says_new (λ j. (node S.nodes j).name) i)
      (λ t. record { name = t.0.0.0.0; generation_zone = t.0.0.0.1; demand_zone = t.0.0.1; demand = t.0.1; new = t.1 }, λ r. ((((r.name, r.generation_zone), r.demand_zone), r.demand), r.new))

  says_new_voltage : (voltage : ℕ) → Says (new_voltage voltage) (NewVoltage voltage)
  unfolding new_voltage
  says_new_voltage voltage = says_eq either says_eq

  says_voltage : (voltage : ℕ) → Says (sound_voltage voltage) ((voltage ≡ 132) ⊎ (voltage ≡ 275) ⊎ (voltage ≡ 400) ⊎ NewVoltage voltage)
  unfolding sound_voltage
  says_voltage voltage = says_as (says_eq either says_eq either says_eq either says_new_voltage voltage) (there, back)
    where
      there : {A B C D : Type 0} → ((A ⊎ B) ⊎ C) ⊎ D → A ⊎ B ⊎ C ⊎ D
      there (inl (inl (inl h))) = inl h
      there (inl (inl (inr h))) = inr (inl h)
      there (inl (inr h)) = inr (inr (inl h))
      there (inr h) = inr (inr (inr h))

      back : {A B C D : Type 0} → A ⊎ B ⊎ C ⊎ D → ((A ⊎ B) ⊎ C) ⊎ D
      back (inl h) = inl (inl (inl h))
      back (inr (inl h)) = inl (inl (inr h))
      back (inr (inr (inl h))) = inl (inr h)
      back (inr (inr (inr h))) = inr h

  says_factor : (voltage factor : ℕ) → Says (sound_factor voltage factor) (((factor ≡ 0) ⊎ InRange factor 1000 30000) × (NewVoltage voltage → factor ≢ 0))
  unfolding sound_factor
  says_factor voltage factor =
      says_as ((says_eq either says_between) also says_not (says_new_voltage voltage also says_eq))
      (λ t. (t.0, λ n e. t.1 (n, e)), λ t. (t.0, λ p. t.1 p.0 p.1))

  says_circuit : (i : ℕ) → Says (sound_circuit S i) (SoundCircuit S i)
  unfolding sound_circuit sound_circuit_row
  says_circuit i =
      let c = circuit S.circuits i in
      says_as
      (says_well_formed c.first also says_well_formed c.second also says_known c.first also says_known c.second also says_not (says_name c.first c.second)
      also says_voltage c.voltage also says_factor c.voltage c.factor also says_between also says_le also says_le also says_le)
      (λ t. record { first_name = t.0.0.0.0.0.0.0.0.0.0; second_name = t.0.0.0.0.0.0.0.0.0.1; first = t.0.0.0.0.0.0.0.0.1; second = t.0.0.0.0.0.0.0.1; apart = t.0.0.0.0.0.0.1; voltage = t.0.0.0.0.0.1; factor = t.0.0.0.0.1.0; own_factor = t.0.0.0.0.1.1; x = t.0.0.0.1; overhead = t.0.0.1; cable = t.0.1; local_mark = t.1 }, λ r. ((((((((((r.first_name, r.second_name), r.first), r.second), r.apart), r.voltage), (r.factor, r.own_factor)), r.x), r.overhead), r.cable), r.local_mark))

  says_station : (i : ℕ) → Says (sound_station S i) (SoundStation S i)
  unfolding sound_station sound_station_row
  says_station i =
      let s = station S.stations i in
      says_as
      (says_well_formed s.identifier also says_well_formed s.node also says_known s.node also says_between also says_le
      also says_new (λ j. (station S.stations j).identifier) i)
      (λ t. record { identifier = t.0.0.0.0.0; node_name = t.0.0.0.0.1; node = t.0.0.0.1; plant_type = t.0.0.1; tec = t.0.1; new = t.1 }, λ r. (((((r.identifier, r.node_name), r.node), r.plant_type), r.tec), r.new))

  -- ---- 2 to 5
  pub record Rowwise : Type 0 where
    pub settings : SoundSettings (length S.nodes) S.settings
    pub nodes : (i : ℕ) → i < length S.nodes → SoundNode S i
    pub circuits : (i : ℕ) → i < length S.circuits → SoundCircuit S i
    pub stations : (i : ℕ) → i < length S.stations → SoundStation S i

  pub rowwise : SoundTables S → Rowwise
  rowwise s = record { settings = s.settings; nodes = s.nodes; circuits = s.circuits; stations = s.stations }

  pub judge_rows : Judges (rows_stage S) (rows_order S)
  unfolding rows_stage settings_stage nodes_stage circuits_stage stations_stage
  judge_rows =
      judges_whole BadSetting (says_settings (length S.nodes) S.settings)
      before λ _. judges_rows (length S.nodes) BadNode says_node
      before λ _. judges_rows (length S.circuits) BadCircuit says_circuit
      before λ _. judges_rows (length S.stations) BadStation says_station

  pub rowwise_met : AllMet (rows_order S) ↔ Rowwise
  rowwise_met = (
    λ m. record { settings = m.0; nodes = m.1.0; circuits = m.1.1.0; stations = m.1.1.1.0 },
    λ r. (r.settings, (r.nodes, (r.circuits, (r.stations, tt)))),
  )

  pub rows_pass : (rows_stage S ≡ Ok tt) ↔ Rowwise
  rows_pass = (λ e. rowwise_met.0 (judge_rows.passes.0 e), λ r. judge_rows.passes.1 (rowwise_met.1 r))

  -- ---- 6
  -- a known name has a place
  pub placed_at : (name : Name) → Known S name → place S.nodes name < length S.nodes
  unfolding place
  placed_at name k = go (lowest_is (λ v. same_name (node S.nodes v).name name) (length S.nodes))
    where
      go : {o : Option ℕ} → Lowest (λ v. same_name (node S.nodes v).name name) (length S.nodes) o → get_or o (length S.nodes) < length S.nodes
      go (nothing h) =
          absurd (true≢false (sym ((says_name (node S.nodes k.place).name name).1 k.named) ∙ h k.place k.is_node))
      go (first i h t f) = h

  pub placed : Rowwise → Placed (network_of (grid_of S))
  unfolding network_of grid_of
  placed r = record {
    reference = omega (arith, r.settings.reference.least, r.settings.reference.most);
    first = λ c h. placed_at _ (r.circuits c h).first;
    second = λ c h. placed_at _ (r.circuits c h).second;
  }

-- a name that some node has is one whose place is a row of the nodes' table
pub known_place : (nodes : List Node) (name : Name) → known nodes name ≡ ltb (place nodes name) (length nodes)
unfolding known place found
known_place nodes name = go (lowest_is (λ v. same_name (node nodes v).name name) (length nodes))
  where
    go : {o : Option ℕ} → Lowest (λ v. same_name (node nodes v).name name) (length nodes) o → found o ≡ ltb (get_or o (length nodes)) (length nodes)
    go (nothing h) = sym (le-ltb (length nodes) (length nodes) (omega arith))
    go (first i h t f) = sym (lt-ltb i (length nodes) h)

-- names are unique, so a name's place is its own row
pub place_own : (S : Study) → Rowwise S → (v : ℕ) → v < length S.nodes → place S.nodes (node S.nodes v).name ≡ v
unfolding place
place_own S r v h =
    ap (λ (o : Option ℕ). get_or o (length S.nodes))
    (lowest_stops _ (length S.nodes) v h ((says_name _ _).1 refl) (λ j k. differ _ (says_name _ _) ((r.nodes v h).new j k)))
  where
    differ : (b : Bool) {P : Type 0} → Says b P → (P → ⊥) → b ≡ false
    differ true s f = absurd (f (s.0 refl))
    differ false s f = refl

-- and the node at a known name's place has that name
pub place_name : (S : Study) (name : Name) → Known S name → (node S.nodes (place S.nodes name)).name ≡ name
unfolding place
place_name S name k = go (lowest_is (λ v. same_name (node S.nodes v).name name) (length S.nodes))
  where
    go : {o : Option ℕ} → Lowest (λ v. same_name (node S.nodes v).name name) (length S.nodes) o
        → (node S.nodes (get_or o (length S.nodes))).name ≡ name
    go (nothing h) =
        absurd (true≢false (sym ((says_name (node S.nodes k.place).name name).1 k.named) ∙ h k.place k.is_node))
    go (first i h t f) = (says_name (node S.nodes i).name name).0 t

-- ---- 7, of two totals
pub says_totals : (demand tec : ℕ) → Says (sound_totals demand tec) ((InRange demand 1 100000000 × InRange tec 1 100000000) × (demand ≤ tec))
unfolding sound_totals
says_totals demand tec = says_between also says_between also says_le

-- ---- 14
judge_scalable : (G : Grid) (b : Background) → Judges (unless (scalable G b) Unscalable) (whole (Scalable G b) Unscalable ∷ [])
unfolding scalable
judge_scalable G b = judges_whole Unscalable (says_as (says_le also says_le) (λ t. record { fixed = t.0; variable = t.1 }, λ t. (t.fixed, t.variable)))

judge_scaling : (G : Grid) → Judges (scaling_stage G) (scaling_order G)
unfolding scaling_stage
judge_scaling G = judges_second G.settings.edition (judge_scalable G YearRound before λ _. judge_scalable G Peak)

-- edition 2 alone asks it
scaling_met : (G : Grid) → AllMet (scaling_order G) ↔ (G.settings.edition ≡ Second → (b : Background) → Scalable G b)
scaling_met G = go G.settings.edition
  where
    each : Scalable G YearRound → Scalable G Peak → (b : Background) → Scalable G b
    each y p YearRound = y
    each y p Peak = p

    go : (e : Edition) → AllMet (only_second e (whole (Scalable G YearRound) Unscalable ∷ whole (Scalable G Peak) Unscalable ∷ [])) ↔ (e ≡ Second → (b : Background) → Scalable G b)
    go First = (λ m h. absurd (first≢second h), λ f. tt)
    go Second = (λ m h. each m.0 m.1.0, λ f. (f refl YearRound, (f refl Peak, tt)))

-- ---- 6, 7, 13 and 14
pub judge_grid : (S : Study) → Rowwise S → Judges (grid_stage (grid_of S)) (grid_order (grid_of S))
unfolding grid_stage reach_stage totals_stage chargeable_stage network_of grid_of
judge_grid S r =
    judges_rows (length S.nodes) Unreached (reached_is (network_of (grid_of S)) (placed S r))
    before λ _. judges_whole BadTotal
    (says_as (says_totals (total_demand (grid_of S)) (total_tec (grid_of S)))
    (λ t. record { demand_total = t.0.0; tec_total = t.0.1; enough = t.1 }, λ t. ((t.demand_total, t.tec_total), t.enough)))
    before λ _. judges_whole NoChargeableTec says_le
    before λ _. judge_scaling (grid_of S)

-- ---- 2 to 7, 13 and 14
pub sound_met : (S : Study) → AllMet (rows_order S) × AllMet (grid_order (grid_of S)) ↔ SoundStudy S
unfolding grid_of
sound_met S = (
  λ m.
      let r = (rowwise_met S).0 m.0 in
      record {
        tables = record { settings = r.settings; nodes = r.nodes; circuits = r.circuits; stations = r.stations; reached = m.1.0; totals = m.1.1.0 };
        chargeable = m.1.1.1.0;
        scalable = (scaling_met (grid_of S)).0 m.1.1.1.1;
      },
  λ s. ((rowwise_met S).1 (rowwise S s.tables), (s.tables.reached, (s.tables.totals, (s.chargeable, (scaling_met (grid_of S)).1 s.scalable)))),
)

pub sound_pass : (S : Study) → ((rows_stage S ≡ Ok tt) × (grid_stage (grid_of S) ≡ Ok tt)) ↔ SoundStudy S
sound_pass S = (
  λ t.
      let m = (judge_rows S).passes.0 t.0 in
      (sound_met S).0 (m, (judge_grid S ((rowwise_met S).0 m)).passes.0 t.1),
  λ s.
      let m = (sound_met S).1 s in
      ((judge_rows S).passes.1 m.0, (judge_grid S (rowwise S s.tables)).passes.1 m.1),
)
