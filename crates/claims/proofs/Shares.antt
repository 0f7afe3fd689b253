-- 02, request 6: without a file in force nothing changes, and a file longer than any sound one is judged by its front.
use mathlib.Core.Path.{◌≡◌, refl, sym, ◌∙◌, ap, ap₂, fun_ext}
use mathlib.Core.Logic.{◌≢◌}
use mathlib.Core.Bool.{false}
use mathlib.Core.List.{List, [], ◌∷◌}
use mathlib.Core.Option.{Option}
use Prim.Native.Nat.{ℕ, suc, ◌+◌, ◌*◌, ◌≤◌}
use native.Mathlib.Decide.{dec_le}
use native.Mathlib.Omega.{arith}
use borrow.Author.Tests.{ne_eqb}
use lib.ListN.{length, take}
use lib.Seq.{take_all, length-take-le}
use Rattle.meaning.specs.declared.Edition.{Edition}
use Rattle.meaning.specs.declared.Edition.TheVariants.{First, Second}
use Rattle.meaning.specs.declared.Side.{Side}
use Rattle.meaning.specs.declared.Side.TheVariants.{Generation}
use Rattle.meaning.specs.declared.Form.{Form}
use Rattle.meaning.specs.Answers.{Judgement}
use Rattle.std.specs.Prelude.{Ok, Err}
use Rattle.meaning.specs.declared.Refusal.TheVariants.{BadShare}
use Rattle.meaning.specs.Answers.{◌or_else◌, unless, when}
use Rattle.meaning.specs.Study.{Runs}
use Rattle.meaning.specs.File.{study_of, runs_in}
use Rattle.meaning.specs.Grid.{Grid, grid_of}
use Rattle.meaning.specs.Sharing.{Sharing, in_force, sound_frame, share_file_stage}
use Rattle.meaning.specs.Charging as charging
use Rattle.meaning.specs.Figures.{zones, zone_weight, sharing, form_of, share_stage, basis}
use Rattle.meaning.specs.Sheet.{Shown, shown_of, sheet_text, sheet}
use Rattle.meaning.specs.Systems.{proposals_stage}
use Rattle.meaning.specs.Outcome.{tables_stage, judged, sheet_of, buffer_stage, answered_by, answer_of, settled_by, settle, printed_by, prints}
use Rattle.meaning.specs.Shares.{NoFileNoChange, PrintedParts, ShareCut}
use Rattle.meaning.specs.declared.Background.TheVariants.{YearRound}
use Rattle.claims.proofs.Shown.{all_read}
use Rattle.meaning.proofs.Answers.{passes_or_else}
use Rattle.meaning.proofs.Tables.{judge_rows}
use Rattle.meaning.proofs.Shared.{none_in_force, not_in_first, unshared, unshared_form, unshared_stage}

-- ---- where no file is in force, every answer and sheet is that without one
module _ (G : Grid) (share : List ℕ) (whole : in_force G.settings.edition share ≡ false) where
  abbrev without : in_force G.settings.edition [] ≡ false
  without = none_in_force G.settings.edition

  same_sharing : sharing G share ≡ sharing G []
  same_sharing = unshared G share whole ∙ sym (unshared G [] without)

  same_stage : share_stage G share ≡ share_stage G []
  same_stage = unshared_stage G share whole ∙ sym (unshared_stage G [] without)

  same_forms : form_of G share ≡ form_of G []
  same_forms = fun_ext (λ side. unshared_form G share whole side ∙ sym (unshared_form G [] without side))

  -- what is shown rests on the file by what it says and by the form of the lines
  abbrev shown_with : Runs → Option Sharing → (Side → Form) → Shown
  shown_with runs s form =
      let page = shown_of G runs [] in
      record {
        edition = page.edition;
        c = page.c;
        peak_c = page.peak_c;
        side = λ side.
            let p = charging.priced (basis G runs) s side in
            record { form = form side; zones = zones G side; residual = charging.residual p; remainder = charging.remainder p; zone = λ k. charging.zone_figures p (suc k) };
        nodes = page.nodes;
        name = page.name;
        local = page.local;
      }

  same_sheet : (runs : Runs) → sheet G runs share ≡ sheet G runs []
  unfolding sheet
  same_sheet runs = ap₂ (λ (s : Option Sharing) (f : Side → Form). sheet_text (shown_with runs s f)) same_sharing same_forms

-- what the stages make of a case rests on the file by 16 alone
judged_by : (file : List ℕ) (runs : Runs) (share share' : List ℕ) → share_stage (grid_of (study_of file)) share ≡ share_stage (grid_of (study_of file)) share' → judged file runs share ≡ judged file runs share'
unfolding judged
judged_by file runs share share' e =
    ap (λ (j : Judgement). tables_stage file (λ s. length (runs s)) or_else j or_else proposals_stage (grid_of (study_of file)) runs) e

pub no_file_no_change : NoFileNoChange
unfolding settle answer_of prints grid_of
no_file_no_change file share whole = record {
  settled = λ runs buffer. ap₂ (λ (j : Judgement) (s : List ℕ). settled_by (j or_else buffer_stage s buffer) s buffer) (judged_same runs) (sheets runs);
  judged = λ runs. ap₂ answered_by (judged_same runs) (sheets runs);
  sheets = sheets;
  printed = ap₂ printed_by (judged_same (runs_in file)) (sheets (runs_in file));
}
  where
    sheets : (runs : Runs) → sheet_of file runs share ≡ sheet_of file runs []
    sheets runs = same_sheet (grid_of (study_of file)) share whole runs

    judged_same : (runs : Runs) → judged file runs share ≡ judged file runs []
    judged_same runs = judged_by file runs share [] (same_stage (grid_of (study_of file)) share whole)

-- ---- a zone's line shows its metres, in one number or in two
pub printed_parts : PrintedParts
unfolding grid_of
printed_parts file runs share a = record { parts = λ side k h some. all_read (study_of file) a.study.tables runs share YearRound tt side k h (λ e. omega (arith, some, e)) }

-- ---- a file of more than 156 bytes is refused as 16, row 0, wherever it is in force: "a wrong length"
too_long : (G : Grid) (share : List ℕ) → G.settings.edition ≡ Second → zones G Generation ≤ 32 → 157 ≤ length share → share_stage G share ≡ Err (BadShare 0)
unfolding share_stage when in_force share_file_stage sound_frame unless ◌or_else◌
too_long G [] second few long = absurd (omega arith)
too_long G (b ∷ bs) second few long =
    let n : length (b ∷ bs) ≢ 4 * (zones G Generation + 7) = λ e. omega (arith, e) in
    ap (λ (e : Edition). when (in_force e (b ∷ bs)) (share_file_stage (b ∷ bs) (zones G Generation) (zone_weight G Generation))) second
    ∙ rw (ne_eqb (length (b ∷ bs)) (4 * (zones G Generation + 7)) n) refl

module _ (file share share' : List ℕ) (long : 157 ≤ length share) (long' : 157 ≤ length share') where
  abbrev G : Grid
  G = grid_of (study_of file)

  abbrev tables : Judgement
  tables = tables_stage file (λ s. length (runs_in file s))

  few_zones : tables ≡ Ok tt → zones G Generation ≤ 32
  unfolding tables_stage zones grid_of
  few_zones e =
      let rows = ((passes_or_else _ _).0 ((passes_or_else _ _).0 ((passes_or_else _ _).0 e).1).1).0 in
      ((judge_rows (study_of file)).passes.0 rows).0.generation_zones.most

  -- stopped before 16, or by it
  stopped_so : (s : List ℕ) → 157 ≤ length s → G.settings.edition ≡ Second → (j : Judgement) → tables ≡ j
      → prints file s ≡ printed_by (j or_else Err (BadShare 0)) []
  unfolding prints judged printed_by ◌or_else◌
  stopped_so s l second (Err r) e = rw e refl
  stopped_so s l second (Ok _) e = rw (e, too_long G s second (few_zones e) l) refl

  cut_alike : (e : Edition) → G.settings.edition ≡ e → prints file share ≡ prints file share'
  unfolding grid_of
  cut_alike First first = (no_file_no_change file share (not_in_first share first)).printed ∙ sym (no_file_no_change file share' (not_in_first share' first)).printed
  cut_alike Second second = stopped_so share long second tables refl ∙ sym (stopped_so share' long' second tables refl)

pub share_cut : ShareCut
share_cut file share room enough = go (dec_le (length share) room)
  where
    go : Dec (length share ≤ room) → prints file (take room share) ≡ prints file share
    go (yes h) = ap (prints file) (take_all room share h)
    go (no h) =
        let l : length (take room share) ≡ room = length-take-le room share (omega arith) in
        cut_alike file (take room share) share (omega (arith, l)) (omega arith) (grid_of (study_of file)).settings.edition refl
