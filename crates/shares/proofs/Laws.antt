-- 02, request 6: over columns that hold a grid's numbers, refusal 16 and what a share file says are the grid's.
use mathlib.Core.Path.{◌≡◌, refl, sym, ◌∙◌, ap, ap₂, fun_ext}
use mathlib.Core.Bool.{Bool, true, false, not}
use mathlib.Core.List.{List}
use Prim.Native.Nat.{ℕ, suc, ◌≤◌, ◌<◌, min}
use native.Mathlib.Omega.{arith}
use borrow.Author.Tests.{le-leb}
use Rattle.meaning.specs.declared.Edition.{Edition}
use Rattle.meaning.specs.Answers.{Judgement}
use Rattle.std.specs.Prelude.{Ok}
use Rattle.meaning.specs.declared.Kw.{Kw}
use Rattle.meaning.specs.declared.Plant.{Plant}
use Rattle.meaning.specs.declared.Side.TheVariants.{Generation}
use Rattle.meaning.specs.Answers.{when}
use Rattle.meaning.specs.Columns.{kw_at}
use Rattle.meaning.specs.Sharing.{in_force, next_inward, load_factor, share_file_stage}
use Rattle.meaning.specs.Grid.{Grid, plant_of, tec_of, node_tec}
use Rattle.meaning.specs.Figures.{low_carbon, zones, zone_weight, zone_tec_of, loaded_kw, share_stage, sharing}
use Rattle.meaning.proofs.Plants.{capacity_at}
use Rattle.plants.specs.declared.Counted.TheVariants.{All, LowCarbon, Carbon, Of}
use Rattle.station_table.specs.Tec.{by_node}
use Rattle.zone_kw.specs.ByZone.{by_zone}
use Rattle.zone_kw.specs.Load.{shared_kw}
use Rattle.zone_kw.proofs.OfGrid.{ZonesOf, at_zone, all_by_zone, some_by_zone, shared_kw_is}
use Rattle.chains.specs.Columns.{of_zone, zone_kw, inward_of, factors_of, stage_in}
use Rattle.chains.proofs.Laws.{OnlyZones, zone_none, zone_past, zone_is, same_next, same_factor, stage_is}
use Rattle.boundaries.specs.declared.Shares.{Shares}
use Rattle.boundaries.specs.Boundaries.{no_shares, up_to, kept, sharing_in}
use Rattle.shares.specs.OfCase.{stage_of, shares_of}

-- ---- as code goes: a file in force, and one that is not
module _ (e : Edition) (count n : ℕ) (zone : List ℕ) (by_type : List Kw) (share : List ℕ) {b : Bool} (told : b ≡ in_force e share) where
  pub forced_stage : {at tec : List Kw} {j : Judgement} → b ≡ true → at ≡ by_node by_type All → tec ≡ by_zone n zone at → j ≡ stage_in share count tec → j ≡ stage_of e count n zone by_type share
  unfolding stage_of when
  forced_stage h a t s = s ∙ rw (sym told ∙ h, t, a) refl

  pub unforced_stage : b ≡ false → Ok tt ≡ stage_of e count n zone by_type share
  unfolding stage_of when
  unforced_stage h = rw (sym told ∙ h) refl

  pub forced_shares : {factors next : List ℕ} {at at' low carbon kw : List Kw} → b ≡ true → factors ≡ factors_of share count → next ≡ inward_of share count
      → at ≡ by_node by_type LowCarbon → low ≡ by_zone n zone at → at' ≡ by_node by_type Carbon → carbon ≡ by_zone n zone at' → kw ≡ shared_kw n zone by_type factors
      → ◌≡◌ {A = Shares} (record { in_force = true; next = next; low = low; carbon = carbon; kw = kw }) (shares_of e count n zone by_type share)
  unfolding shares_of
  forced_shares h f x a l a' c k = rw (sym told ∙ h, x, l, a, c, a', k, f) refl

  pub unforced_shares : {s : Shares} → b ≡ false → s ≡ no_shares → s ≡ shares_of e count n zone by_type share
  unfolding shares_of
  unforced_shares h q = q ∙ rw (sym told ∙ h) refl

-- ---- the columns of a grid, and the numbers of its edition and zones
pub record CaseOf (G : Grid) (e : Edition) (count n : ℕ) (zone : List ℕ) (by_type : List Kw) : Type 0 where
  pub edition : e ≡ G.settings.edition
  pub zones : count ≡ zones G Generation
  pub few : count ≤ 32
  pub nodes : ZonesOf G n zone
  pub tec : (v : ℕ) → v < n → kw_at (by_node by_type All) v ≡ node_tec G v
  pub low : (v : ℕ) → v < n → kw_at (by_node by_type LowCarbon) v ≡ tec_of low_carbon G v
  pub carbon : (v : ℕ) → v < n → kw_at (by_node by_type Carbon) v ≡ tec_of (λ plant. not (low_carbon plant)) G v
  pub types : (t : ℕ) → t < 7 → (v : ℕ) → v < n → kw_at (by_node by_type (Of (plant_of (suc t)))) v ≡ capacity_at G v t
  pub small : (test : Plant → Bool) (z : ℕ) → zone_tec_of G test z ≤ 100000000

-- an array by zone
by_array : (kw : List Kw) (z : ℕ) → zone_kw kw z ≡ at_zone kw z
unfolding of_zone
by_array kw z = refl

-- kilowatts up to 10^8 are kept
up_to_lem : (x : ℕ) → x ≤ 100000000 → up_to x ≡ x
unfolding up_to
up_to_lem x h = rw (le-leb x 100000000 h) refl

module _ {G : Grid} {e : Edition} {count n : ℕ} {zone : List ℕ} {by_type : List Kw} (c : CaseOf G e count n zone by_type) (share : List ℕ) where
  tec_is : zone_kw (by_zone n zone (by_node by_type All)) ≡ zone_weight G Generation
  tec_is = fun_ext (λ z. by_array (by_zone n zone (by_node by_type All)) z ∙ all_by_zone c.nodes (by_node by_type All) c.tec z)

  -- 16
  pub stage_of_case : stage_of e count n zone by_type share ≡ share_stage G share
  unfolding stage_of share_stage
  stage_of_case =
      ap₂ (λ (f : Edition) (j : Judgement). when (in_force f share) j) c.edition
      (stage_is share count (by_zone n zone (by_node by_type All)) c.few
      ∙ ap₂ (λ (m : ℕ) (tec : ℕ → ℕ). share_file_stage share m tec) c.zones tec_is)

  -- low carbon and carbon TEC
  module _ (test : Plant → Bool) (kw : List Kw) (same : (v : ℕ) → v < n → kw_at kw v ≡ tec_of test G v) where
    by_zone_lem : (z : ℕ) → zone_kw (by_zone n zone kw) z ≡ zone_tec_of G test z
    by_zone_lem z = by_array (by_zone n zone kw) z ∙ some_by_zone c.nodes test kw same z

    only : OnlyZones 0 (zone_tec_of G test)
    only = record {
      none = sym (by_zone_lem 0) ∙ zone_none 0 (kw_at (by_zone n zone kw));
      past = λ z h. sym (by_zone_lem z) ∙ zone_past 0 (kw_at (by_zone n zone kw)) z h;
    }

    kept_is : kept (by_zone n zone kw) ≡ zone_tec_of G test
    kept_is = zone_is 0 (λ i. up_to (kw_at (by_zone n zone kw) i)) only (λ i h. row i h)
      where
        row : (i : ℕ) → i < 32 → up_to (kw_at (by_zone n zone kw) i) ≡ zone_tec_of G test (suc i)
        row i h =
            let r = sym (zone_row_of i h) ∙ by_zone_lem (suc i) in
            ap up_to r ∙ up_to_lem (zone_tec_of G test (suc i)) (c.small test (suc i))
          where
            zone_row_of : (i : ℕ) → i < 32 → zone_kw (by_zone n zone kw) (suc i) ≡ kw_at (by_zone n zone kw) i
            zone_row_of i h = Rattle.chains.proofs.Laws.zone_row 0 (kw_at (by_zone n zone kw)) i h

  -- what the file says, where its load factors are in their range
  module _ (thousandths : in_force G.settings.edition share ≡ true → (t : ℕ) → t < 7 → load_factor share (zones G Generation) (suc t) ≤ 1000) where
    loaded_is : in_force G.settings.edition share ≡ true → zone_kw (shared_kw n zone by_type (factors_of share count)) ≡ loaded_kw G (load_factor share (zones G Generation))
    loaded_is h =
        fun_ext (λ z. by_array (shared_kw n zone by_type (factors_of share count)) z
        ∙ shared_kw_is c.nodes by_type c.types (factors_of share count) (load_factor share (zones G Generation))
        (λ t l. same_factor share count t c.few l ∙ ap (λ (m : ℕ). load_factor share m (suc t)) c.zones) (thousandths h) z)

    pub sharing_of_case : sharing_in (shares_of e count n zone by_type share) count ≡ sharing G share
    unfolding shares_of sharing_in sharing
    sharing_of_case = ap (λ (f : Edition). sharing_in (shares_of f count n zone by_type share) count) c.edition ∙ go (in_force G.settings.edition share) refl
      where
        go : (b : Bool) → in_force G.settings.edition share ≡ b → sharing_in (shares_of G.settings.edition count n zone by_type share) count ≡ sharing G share
        go false h = rw h refl
        go true h =
            let m : min count 32 ≡ zones G Generation = omega (arith, c.few, c.zones) in
            let x = same_next share count c.few ∙ ap (next_inward share) c.zones in
            rw (h, m, x, kept_is low_carbon (by_node by_type LowCarbon) c.low, kept_is (λ plant. not (low_carbon plant)) (by_node by_type Carbon) c.carbon, loaded_is h) refl
