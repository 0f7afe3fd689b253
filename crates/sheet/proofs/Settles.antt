-- What the entry settles, by what stops the case: a refusal, or the text of its figures, which is its sheet.
use mathlib.Core.Path.{◌≡◌, refl, sym, ◌∙◌, ap}
use mathlib.Core.List.{List}
use Prim.Native.Nat.{ℕ, ◌≤◌, ◌<◌}
use native.Mathlib.Omega.{arith}
use borrow.Author.Tests.{le-leb, lt-leb}
use lib.ListN.{length}
use Rattle.meaning.specs.declared.Refusal.{Refusal}
use Rattle.meaning.specs.declared.Refusal.TheVariants.{ShortBuffer}
use Rattle.std.specs.Prelude.{Result, Ok, Err}
use Rattle.meaning.specs.Answers.{Answer, ◌or_else◌, unless}
use Rattle.meaning.specs.Study.{Runs}
use Rattle.meaning.specs.File.{study_of}
use Rattle.meaning.specs.Grid.{grid_of}
use Rattle.meaning.specs.Outcome.{judged, sheet_of, Settled, refused, written, buffer_stage, answered_by, answer_of, settled_by, settle}
use Rattle.meaning.specs.Conditions.{Acceptable}
use Rattle.meaning.proofs.Answers.{let_through, held_back}
use Rattle.meaning.proofs.Judged.{judged_pass}
use Rattle.meaning.specs.declared.Figures.{Figures}
use Rattle.charges.specs.Charged.{charged_of}
use Rattle.meaning.specs.Figures.{sharing, basis}
use Rattle.tariffs.specs.Case.{figures_of}
use Rattle.layout.specs.Readable.{section_in}
use Rattle.text.specs.SheetText.{text_of, Sized}
use Rattle.text.specs.Writing.{Fitted}
use Rattle.text.proofs.Sizing.{says_sized, text_sized}
use Rattle.sheet.proofs.OfCase.{case_sheet, case_sized}

-- ---- a text in a buffer: 12 where the buffer is shorter
module _ (text before after : List ℕ) (n : ℕ) (w : Fitted text before after n) where
  pub short_settled : length before < n → ◌≡◌ {A = Settled} (record { answer = Err ShortBuffer; buffer = after }) (settled_by (buffer_stage text before) text before)
  unfolding settled_by buffer_stage unless refused
  short_settled h =
      let l = lt-leb (length text) (length before) (omega (arith, w.answer)) in
      rw (w.buffer, l) refl

  pub text_settled : n ≤ length before → ◌≡◌ {A = Settled} (record { answer = Ok n; buffer = after }) (settled_by (buffer_stage text before) text before)
  unfolding settled_by buffer_stage unless written
  text_settled h =
      let l = le-leb (length text) (length before) (omega (arith, w.answer)) in
      rw (w.answer, w.buffer, l) refl

-- ---- a case that was charged
module _ (file : List ℕ) (runs : Runs) (share : List ℕ) {x : Result Figures Refusal} (made : x ≡ charged_of file runs share) where
  -- stopped: the refusal, and the buffer as it was
  module _ {cause : Refusal} (stops : x ≡ Err cause) where
    stopped : judged file runs share ≡ Err cause
    unfolding charged_of
    stopped = held_back _ _ made stops

    pub refusal_settled : (buffer : List ℕ) → ◌≡◌ {A = Settled} (record { answer = Err cause; buffer = buffer }) (settle file runs share buffer)
    unfolding settle settled_by ◌or_else◌ refused
    refusal_settled buffer = rw stopped refl

    pub refusal_answered : ◌≡◌ {A = Answer} (Err cause) (answer_of file runs share)
    unfolding answer_of answered_by
    refusal_answered = rw stopped refl

  -- not stopped: the text of the figures is the sheet
  module _ {f : Figures} (passes : x ≡ Ok f) where
    judged_passes : judged file runs share ≡ Ok tt
    unfolding charged_of
    judged_passes = (let_through _ _ made passes).0

    figures_are : f ≡ figures_of (basis (grid_of (study_of file)) runs) (sharing (grid_of (study_of file)) share)
    unfolding charged_of
    figures_are = (let_through _ _ made passes).1

    acceptable : Acceptable file runs share
    acceptable = (judged_pass file runs share).0 judged_passes

    abbrev text : List ℕ
    text = text_of f file (section_in file 1)

    figures_sized : Sized f file (section_in file 1)
    figures_sized = rw figures_are (case_sized file runs share acceptable.whole acceptable.study.tables.settings)

    figures_text : text ≡ sheet_of file runs share
    figures_text =
        text_sized f file (section_in file 1) ((says_sized f file (section_in file 1)).1 figures_sized)
        ∙ rw figures_are (case_sheet file runs share acceptable.whole acceptable.study.tables.settings)

    pub sheet_settled : (before : List ℕ) (s : Settled) → s ≡ settled_by (buffer_stage text before) text before → s ≡ settle file runs share before
    unfolding settle ◌or_else◌
    sheet_settled before s e = e ∙ rw (figures_text, judged_passes) refl

    pub sheet_answered : {n : ℕ} → n ≡ length text → ◌≡◌ {A = Answer} (Ok n) (answer_of file runs share)
    unfolding answer_of answered_by
    sheet_answered e = ap Ok (e ∙ ap length figures_text) ∙ rw judged_passes refl
