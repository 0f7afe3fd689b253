-- The columns of a file that nothing stops are those of its grid: all that the figures ask of a case.
use mathlib.Core.Path.{◌≡◌, refl, sym, ◌∙◌, ap, subst}
use mathlib.Core.Bool.{Bool, true, false, cond}
use mathlib.Core.List.{List}
use mathlib.Core.Option.{Option, some}
use Prim.Native.Nat.{ℕ, suc, ◌≤◌, ◌<◌, min}
use native.Mathlib.Nat.{le_trans}
use native.Mathlib.Omega.{arith}
use lib.ListN.{length}
use Rattle.meaning.specs.declared.Edition.{Edition}
use Rattle.meaning.specs.declared.Edition.TheVariants.{First, Second}
use Rattle.meaning.specs.declared.Background.{Background}
use Rattle.meaning.specs.declared.Background.TheVariants.{YearRound, Peak}
use Rattle.meaning.specs.declared.System.TheVariants.{Wider, Local}
use Rattle.meaning.specs.declared.Side.TheVariants.{Generation, Demand}
use Rattle.meaning.specs.declared.Settings.{Settings}
use Rattle.meaning.specs.Editions.{Of, HasSystem}
use Rattle.meaning.specs.Study.{Runs}
use Rattle.meaning.specs.Columns.{kw_at}
use Rattle.meaning.specs.File.{study_of}
use Rattle.meaning.specs.Grid.{Grid, grid_of, pays_in, paying_tec_in}
use Rattle.meaning.specs.Sharing.{Sharing, in_force, shared_kw, sharing_on}
use Rattle.meaning.specs.Charging as charging
use Rattle.meaning.specs.Figures.{zones, zone_of, weight, paying_in, total_paying, sharing, basis}
use Rattle.meaning.specs.Outcome.{tables_stage, judged}
use Rattle.meaning.specs.Conditions.{Acceptable, SoundShare}
use Rattle.sizes.specs.Bounds.{KilowattsFit, FiguresFit}
use Rattle.std.specs.Prelude.{Result, Ok}
use Rattle.meaning.specs.declared.Refusal.{Refusal}
use Rattle.meaning.proofs.Answers.{passes_or_else, let_through}
use Rattle.meaning.proofs.Frame as frame
use Rattle.sizes.proofs.Ranges.{ranged}
use Rattle.sizes.proofs.Kilowatts.{kilowatts_fit_lem}
use Rattle.sizes.proofs.Figures.{figures_fit}
use Rattle.sizes.proofs.Accepted.{solved_in_range}
use Rattle.meaning.proofs.Judged.{judged_pass}
use Rattle.tables.specs.declared.Opened.{Opened}
use Rattle.plants.specs.declared.Counted.TheVariants.{All, Paying}
use Rattle.station_table.specs.Tec.{by_node}
use Rattle.tables.proofs.FrameLaws.{run_length_lem}
use Rattle.tables.proofs.ReadLaws.{StudyColumns}
use Rattle.tables.proofs.NodeLaws.{SameNodes, columns_nodes, all_at, paying_at, paying_at_peak_at}
use Rattle.tables.proofs.Sound.{study_columns}
use Rattle.proposal.specs.Judges.{Judges}
use Rattle.boundaries.specs.declared.Shares.{Shares}
use Rattle.boundaries.specs.Boundaries.{kept, sharing_in}
use Rattle.chains.specs.Columns.{next_in, zone_kw}
use Rattle.chains.proofs.Laws.{zone_row}
use Rattle.shares.proofs.OfOpened.{sharing_of_opened}
use Rattle.sharing.proofs.Centre.{in_force_lem}
use Rattle.tariffs.specs.Sides.{shared_zones}
use Rattle.tariffs.specs.Case.{by_background, figures_of, figures_over}
use Rattle.charges.specs.Charged.{peak_payers, shares_in}
use Rattle.charges.proofs.OfSide.{SideOf, GridFits}
use Rattle.charges.proofs.OfCase.{ColumnsOf, case_is}

-- ---- the columns of a grid's nodes, by background and side
module _ {G : Grid} {o : Opened} (s : SameNodes G o) where
  -- what pays in peak, where the edition has one
  peak_at : (e : Edition) → Of Peak e → (v : ℕ) → v < o.counts.nodes → kw_at (peak_payers e o.by_type) v ≡ paying_tec_in Peak G v
  peak_at First h = absurd h
  peak_at Second h = paying_at_peak_at s

  generation_of : (b : Background) → Of b G.settings.edition
      → SideOf G b Generation o.counts.nodes o.nodes.generation_zone (by_node o.by_type All) (by_background (by_node o.by_type Paying) (peak_payers o.settings.edition o.by_type) b)
  unfolding zone_of weight paying_in pays_in
  generation_of YearRound h = record { nodes = s.nodes; in_zone = s.generation_zone; weighs = all_at s; paid = paying_at s }
  generation_of Peak h = record { nodes = s.nodes; in_zone = s.generation_zone; weighs = all_at s; paid = peak_at o.settings.edition (rw s.edition h) }

  demand_of : (b : Background) → SideOf G b Demand o.counts.nodes o.nodes.demand_zone o.nodes.demand o.nodes.demand
  unfolding zone_of weight paying_in
  demand_of b = record { nodes = s.nodes; in_zone = s.demand_zone; weighs = s.demand; paid = s.demand }

  columns_of : ColumnsOf G o.counts.nodes o.nodes.generation_zone (by_node o.by_type All) (by_node o.by_type Paying) (peak_payers o.settings.edition o.by_type) o.nodes.demand_zone o.nodes.demand
  columns_of = record { generation = generation_of; demanded = demand_of }

-- ---- the kilowatts of a shared tariff are some of those that pay
module _ (G : Grid) (k : KilowattsFit G) (runs : Runs) (share : List ℕ) (few : zones G Generation ≤ 32) (f : FiguresFit G runs share) (shares : Shares) (told : sharing_in shares G.settings.generation_zones ≡ sharing G share) where
  -- of a zone, as the array has it
  array_kw : (i : ℕ) → shares.in_force ≡ true → i < 32 → kw_at shares.kw i ≡ shared_kw (sharing G share) (suc i)
  unfolding sharing_in shared_kw
  array_kw i h l = sym (zone_row 0 (kw_at shares.kw) i l) ∙ ap (λ (s : Option Sharing). shared_kw s (suc i)) (in_array ∙ told)
    where
      in_array : some (record { zones = min G.settings.generation_zones 32; next = next_in shares.next; low = kept shares.low; carbon = kept shares.carbon; kw = zone_kw shares.kw })
          ≡ sharing_in shares G.settings.generation_zones
      in_array = rw h refl

  light_shares : (i : ℕ) → i < shared_zones shares.in_force G.settings.generation_zones → kw_at shares.kw i ≤ total_paying G Generation
  unfolding shared_zones charging.priced sharing_on zones
  light_shares i h = go shares.in_force refl h
    where
      go : (b : Bool) → shares.in_force ≡ b → i < cond b G.settings.generation_zones 0 → kw_at shares.kw i ≤ total_paying G Generation
      go false e h = absurd (omega arith)
      go true e h = rw (array_kw i e (omega (arith, h, few))) (le_trans (f.shares.kw Generation (suc i)) (k.zone_part Generation (suc i)))

-- ---- the columns of a file that nothing stops
module _ (file : List ℕ) (runs : Runs) (share : List ℕ) (p : judged file runs share ≡ Ok tt) where
  accepted : Acceptable file runs share
  accepted = (judged_pass file runs share).0 p

  tables_pass : tables_stage file (λ s. length (runs s)) ≡ Ok tt
  unfolding judged
  tables_pass = ((passes_or_else _ _).0 p).0

  few_nodes : length (study_of file).nodes ≤ 256
  few_nodes = omega (arith, (frame.counts file runs accepted.whole).0, accepted.whole.nodes.most)

  figures : FiguresFit (grid_of (study_of file)) runs share
  unfolding grid_of
  figures = figures_fit (study_of file) accepted.study runs (solved_in_range (study_of file) runs accepted.solved) share accepted.shared

  fits : GridFits (grid_of (study_of file)) runs
  unfolding grid_of
  fits =
      let S = study_of file in
      let w = accepted.whole in
      let g = figures in
      record {
        few = few_nodes;
        long = λ system has. omega (arith, (frame.counts file runs w).0, w.lengths system, run_length_lem file system (subst (λ (e : Edition). HasSystem e system) (frame.edition_read file) has));
        ranged = ranged S accepted.study;
        kilowatts_fit = kilowatts_fit_lem S accepted.study;
        metres_fit = g.metres;
        locals = g.locals;
      }

  -- opened by the judge
  module _ (o : Opened) {x : Result Opened Refusal} (j : Judges file runs share x) (h : x ≡ Ok o) where
    columns : StudyColumns (study_of file) o
    columns = study_columns file _ (let_through _ _ j.judged h).1 (rw h at j.possible) tables_pass

    abbrev shares : Shares
    shares = shares_in o share

    -- what the share file says, where it is in force
    sound : in_force (grid_of (study_of file)).settings.edition share ≡ true → SoundShare (grid_of (study_of file)) share
    unfolding grid_of
    sound h = let f = in_force_lem (study_of file).settings.edition share h in accepted.shared f.0 f.1

    told : sharing_in shares o.settings.generation_zones ≡ sharing (grid_of (study_of file)) share
    told = sharing_of_opened (study_of file) accepted.study few_nodes o columns share sound

    zones_are : o.settings.generation_zones ≡ (grid_of (study_of file)).settings.generation_zones
    unfolding grid_of
    zones_are = ap (λ (k : Settings). k.generation_zones) columns.settings

    light : (k : ℕ) → k < shared_zones shares.in_force (grid_of (study_of file)).settings.generation_zones → kw_at shares.kw k ≤ total_paying (grid_of (study_of file)) Generation
    light k h = light_shares (grid_of (study_of file)) (kilowatts_fit_lem (study_of file) accepted.study) runs share ((ranged (study_of file) accepted.study).zones_most Generation) figures shares (subst (λ (m : ℕ). sharing_in shares m ≡ sharing (grid_of (study_of file)) share) zones_are told) k h

    pub figures_of_file : figures_over o.counts.nodes o.settings o.nodes.generation_zone (by_node o.by_type All) (by_node o.by_type Paying) (peak_payers o.settings.edition o.by_type)
        o.nodes.demand_zone o.nodes.demand (runs (Wider YearRound)) (runs (Wider Peak)) (runs Local) shares
        ≡ figures_of (basis (grid_of (study_of file)) runs) (sharing (grid_of (study_of file)) share)
    unfolding grid_of
    figures_of_file =
        ap (λ (k : Settings). figures_over o.counts.nodes k o.nodes.generation_zone (by_node o.by_type All) (by_node o.by_type Paying) (peak_payers o.settings.edition o.by_type)
        o.nodes.demand_zone o.nodes.demand (runs (Wider YearRound)) (runs (Wider Peak)) (runs Local) shares) columns.settings
        ∙ case_is (grid_of (study_of file)) runs fits o.counts.nodes o.nodes.generation_zone (by_node o.by_type All) (by_node o.by_type Paying) (peak_payers o.settings.edition o.by_type)
        o.nodes.demand_zone o.nodes.demand (columns_of (columns_nodes columns few_nodes)) share shares
        (subst (λ (m : ℕ). sharing_in shares m ≡ sharing (grid_of (study_of file)) share) zones_are told) light
