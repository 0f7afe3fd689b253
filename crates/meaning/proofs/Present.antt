-- 02, request 5: "0 is edition 1, with its present sheet". What steps 8 to 10 and the sheet say over editions and backgrounds is, of edition 1, what 01 says.
use mathlib.Core.Path.{◌≡◌, refl, ◌∙◌, ap, ap₂, subst}
use mathlib.Core.Bool.{cond}
use mathlib.Core.List.{List, [], ◌∷◌}
use Prim.Native.Nat.{ℕ}
use native.Mathlib.Omega.{arith}
use lib.Dec.{eqb}
use lib.IntN.{ℤ, pos, ◌+ℤ◌, ◌*ℤ◌}
use lib.ListN.{length}
use Rattle.integers.specs.Numbers.{sum}
use Rattle.integers.proofs.Core.{Z}
use Rattle.meaning.specs.declared.Edition.{Edition}
use Rattle.meaning.specs.declared.Edition.TheVariants.{First}
use Rattle.meaning.specs.declared.Form.{Form}
use Rattle.meaning.specs.declared.Form.TheVariants.{OneBackground, TwoBackgrounds}
use Rattle.meaning.specs.declared.Background.{Background}
use Rattle.meaning.specs.declared.Background.TheVariants.{YearRound, Peak}
use Rattle.meaning.specs.declared.System.TheVariants.{Base, Wider, Local}
use Rattle.meaning.specs.Answers.{Judgement}
use Rattle.std.specs.Prelude.{Ok}
use Rattle.meaning.specs.declared.Refusal.TheVariants.{Unscalable, BackgroundInDoubt}
use Rattle.meaning.specs.declared.Side.{Side}
use Rattle.meaning.specs.declared.Side.TheVariants.{Generation, Demand}
use Rattle.meaning.specs.Answers.{◌or_else◌, unless, at, in_second}
use Rattle.meaning.specs.Rows.{failing}
use Rattle.meaning.specs.Editions.{Of, by_edition, over_backgrounds, same_background}
use Rattle.meaning.specs.Study.{Metres, Runs, circuit}
use Rattle.meaning.specs.File.{edition_at, sections, trailer_size, most_circuits, version_of}
use Rattle.meaning.specs.Grid.{Grid, pays_in}
use Rattle.meaning.specs.Generation.{scalable, scaling_stage}
use Rattle.meaning.specs.Direction.{direction, signed_length}
use Rattle.meaning.specs.Systems.{base_flow, length_of, offset, solution_stage, counting_clear, counting_stage, direction_stage, in_order, ordered, proposals_stage}
use Rattle.meaning.specs.Charging.{in_zone, wider_income}
use Rattle.meaning.specs.Charging as charging
use Rattle.meaning.specs.Figures.{zone_of, paying, paying_in, zone_weight, zone_paying, zone_paying_in, total_paying, total_paying_in, over_zones, zonal_metres, sharing, form_of, own_metres, after_c, zone_tariff, priced, residual, zone_total, zone_figures, basis}
use Rattle.meaning.specs.Text.{text, natural, decimals}
use Rattle.meaning.specs.Sheet.{constant_fields, letter, zone_numbers, zone_fields}
use Rattle.meaning.specs.Read.{field, read_natural, read_whole, has_letter, metres_field, tariff_field, residual_field, printed_shared_tariff, zone_income}
use Rattle.meaning.specs.Backgrounds.{FrameAs01, five_numbers, StepsAs01, EditionOneIs01}
use Rattle.meaning.specs.Sharing.{shared_kw, sharing_on}
use Rattle.meaning.proofs.Shared.{not_in_first, unshared_form, unshared_stage, unshared_on, own_whole, no_shared_income}
use Rattle.meaning.proofs.Answers.{or_else_none}
use Rattle.meaning.proofs.Generation.{first_generation}
use Rattle.meaning.proofs.Directions.{first_background}

-- ---- who pays at all pays in the year round background
module _ (G : Grid) where
  pub year_round_pays : (side : Side) → paying_in G YearRound side ≡ paying G side
  unfolding paying_in paying pays_in
  year_round_pays Generation = refl
  year_round_pays Demand = refl

  pub year_round_zone : (side : Side) → zone_paying_in G YearRound side ≡ zone_paying G side
  unfolding zone_paying_in zone_paying
  year_round_zone side = ap (in_zone (length G.nodes) (zone_of G side)) (year_round_pays side)

  pub year_round_total : (side : Side) → total_paying_in G YearRound side ≡ total_paying G side
  unfolding total_paying_in total_paying
  year_round_total side = ap (sum (length G.nodes)) (year_round_pays side)

-- ---- edition 1, and its one background
pub one_background : {e : Edition} → e ≡ First → (b : Background) → Of b e → b ≡ YearRound
one_background present YearRound h = refl
one_background present Peak h = absurd (subst (Of Peak) present h)

module _ (G : Grid) (present : G.settings.edition ≡ First) where
  -- "`C` and C."
  pub present_constant : (c peak_c : Metres) → constant_fields G.settings.edition c peak_c ≡ text "C" ∷ decimals (c ∷ [])
  unfolding constant_fields
  present_constant c peak_c = ap (λ (e : Edition). constant_fields e c peak_c) present

  -- no file is in force, so every line has one background
  pub present_form : (share : List ℕ) (side : Side) → form_of G share side ≡ OneBackground
  present_form share side = unshared_form G share (not_in_first share present) side ∙ ap (by_edition OneBackground TwoBackgrounds) present

  pub present_own : (runs : Runs) (share : List ℕ) (side : Side) (zone : ℕ) → own_metres G runs share YearRound side zone ≡ zonal_metres G runs YearRound side zone
  unfolding charging.priced basis
  present_own runs share side zone = own_whole (priced G runs share side) (unshared_on G share (not_in_first share present) runs side) YearRound zone

  -- a sheet read back: a line brings in its total times the kilowatts that pay
  pub present_zone_income : (share : List ℕ) (side : Side) (l : List ℕ) → read_whole (field 6 l) ≡ read_whole (field 4 l) +ℤ read_whole (field 5 l)
      → zone_income G share side l ≡ cond (has_letter (letter side) l) (read_whole (field 6 l) *ℤ pos (zone_paying G side (read_natural 0 (field 1 l)))) (pos 0)
  unfolding zone_income over_backgrounds metres_field residual_field printed_shared_tariff
  present_zone_income share side l h =
      let zone = read_natural 0 (field 1 l) in
      ap₂ (λ (e : Edition) (f : Form). cond (has_letter (letter side) l) (
      over_backgrounds e (λ b. read_whole (field (tariff_field f b) l) *ℤ pos (zone_paying_in G b side zone))
      +ℤ printed_shared_tariff f l *ℤ pos (shared_kw (sharing_on side (sharing G share)) zone)
      +ℤ read_whole (field (residual_field f) l) *ℤ pos (zone_paying G side zone)) (pos 0)) present (present_form share side)
      ∙ ap (λ (z : ℤ). cond (has_letter (letter side) l) z (pos 0))
      (rw (year_round_zone G side, h) (both (read_whole (field 4 l)) (read_whole (field 5 l)) (zone_paying G side zone) (shared_kw (sharing_on side (sharing G share)) zone)))
    where
      both : (t r : ℤ) (k s : ℕ) → t *ℤ pos k +ℤ pos 0 *ℤ pos s +ℤ r *ℤ pos k ≡ (t +ℤ r) *ℤ pos k
      both t r k s = simp Z (omega arith)

  module _ (runs : Runs) (share : List ℕ) (side : Side) where
    -- step 10: "wider income (zone tariffs times TEC)"
    pub present_income : wider_income (priced G runs share side) ≡ over_zones G YearRound side (zone_tariff G runs share YearRound side)
    unfolding charging.priced basis over_backgrounds
    present_income =
        ap (λ (e : Edition). over_backgrounds e (λ b. over_zones G b side (zone_tariff G runs share b side)) +ℤ charging.shared_income (priced G runs share side)) present
        ∙ ap (λ (z : ℤ). over_zones G YearRound side (zone_tariff G runs share YearRound side) +ℤ z) (no_shared_income (priced G runs share side) (unshared_on G share (not_in_first share present) runs side))
        ∙ alone (over_zones G YearRound side (zone_tariff G runs share YearRound side))
      where
        alone : (z : ℤ) → z +ℤ pos 0 ≡ z
        alone z = simp Z (omega arith)

    module _ (zone : ℕ) where
      -- "A zone's total is its tariff plus the residual."
      pub present_total : zone_total G runs share side zone ≡ zone_tariff G runs share YearRound side zone +ℤ residual G runs share side
      unfolding charging.zone_total charging.priced basis over_backgrounds
      present_total = ap (λ (e : Edition). over_backgrounds e (λ b. zone_tariff G runs share b side zone) +ℤ residual G runs share side) present

      pub present_numbers : zone_numbers (form_of G share side) (residual G runs share side) (zone_figures G runs share side zone) ≡ five_numbers G runs share side zone
      unfolding zone_numbers charging.zone_figures charging.wider_figures
      present_numbers =
          ap (λ (f : Form). zone_numbers f (residual G runs share side) (zone_figures G runs share side zone)) (present_form share side)
          ∙ ap (λ (m : Metres). m ∷ after_c G runs share YearRound side zone ∷ zone_tariff G runs share YearRound side zone ∷ residual G runs share side ∷ zone_total G runs share side zone ∷ [])
          (present_own runs share side zone)

      -- "`G`, zone" and these; "A zone with no kilowatts prints its letter, number and `-`."
      pub present_line : zone_fields (form_of G share side) side zone (residual G runs share side) (zone_figures G runs share side zone)
          ≡ letter side ∷ natural zone ∷ cond (eqb (zone_weight G side zone) 0) (text "-" ∷ []) (decimals (five_numbers G runs share side zone))
      unfolding zone_fields charging.zone_figures charging.priced basis
      present_line = ap (λ (ns : List ℤ). letter side ∷ natural zone ∷ cond (eqb (zone_weight G side zone) 0) (text "-" ∷ []) (decimals ns)) present_numbers

-- ---- steps 1, 4 and 5, and the order of judging
module _ (G : Grid) (runs : Runs) (first : G.settings.edition ≡ First) where
  present_length : (c : ℕ) → length_of G runs c ≡ signed_length G.settings (circuit G.circuits c) (base_flow G runs YearRound c)
  unfolding length_of
  present_length c = ap (λ (b : Background). signed_length G.settings (circuit G.circuits c) (base_flow G runs b c)) (first_background G runs c first)

  present_wider : (c : ℕ) → offset G runs (Wider YearRound) c ≡ cond (eqb (circuit G.circuits c).local_mark 0) (length_of G runs c) (pos 0)
  unfolding offset
  present_wider c =
      ap (λ (b : Background). cond (eqb (circuit G.circuits c).local_mark 0) (cond (same_background YearRound b) (length_of G runs c) (pos 0)) (pos 0)) (first_background G runs c first)

  present_scaling : scaling_stage G ≡ Ok tt
  unfolding scaling_stage in_second
  present_scaling = ap (λ (e : Edition). in_second e (unless (scalable G YearRound) Unscalable or_else unless (scalable G Peak) Unscalable)) first

  present_order : proposals_stage G runs
      ≡ solution_stage G runs (Base YearRound) or_else direction_stage G runs or_else solution_stage G runs (Wider YearRound) or_else solution_stage G runs Local
  unfolding proposals_stage ordered in_order counting_stage in_second ◌or_else◌
  present_order =
      ap (λ (e : Edition). ordered e (solution_stage G runs) (in_second e (at (failing (counting_clear G runs) (length G.circuits)) BackgroundInDoubt)) (direction_stage G runs)) first
      ∙ ap (λ (j : Judgement). solution_stage G runs (Base YearRound) or_else direction_stage G runs or_else solution_stage G runs (Wider YearRound) or_else j)
      (or_else_none (solution_stage G runs Local))

  steps_as_01 : (share : List ℕ) → StepsAs01 G runs share
  steps_as_01 share = record {
    generation = first_generation G first YearRound;
    directions = λ c. ap (λ (b : Background). direction (base_flow G runs b c)) (first_background G runs c first);
    lengths = present_length;
    wider = present_wider;
    payers = year_round_pays G;
    income = present_income G first runs share;
    total = present_total G first runs share;
    constant_line = present_constant G first;
    zone_line = present_line G first runs share;
    line_income = present_zone_income G first share;
    scaling = present_scaling;
    sharing = unshared_stage G share (not_in_first share first);
    order = present_order;
  }

frame_as_01 : (file : List ℕ) → edition_at file ≡ First → FrameAs01 file
unfolding most_circuits
frame_as_01 file first = record {
  sections = ap sections first;
  trailer = ap trailer_size first;
  circuits = ap (λ (e : Edition). most_circuits e (version_of file)) first;
}

pub edition_one_is_01 : EditionOneIs01
edition_one_is_01 = record { frame = frame_as_01; steps = λ G runs share first. steps_as_01 G runs first share }
