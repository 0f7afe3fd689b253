-- The demands hold of every answer that is given without a buffer.
use mathlib.Core.Path.{◌≡◌, refl, sym, ap, ap₂}
use mathlib.Core.Logic.{◌↔◌}
use mathlib.Core.List.{List}
use Prim.Native.Nat.{ℕ}
use lib.ListN.{length}
use Rattle.meaning.specs.declared.Refusal.{Refusal}
use Rattle.meaning.specs.Answers.{Judgement}
use Rattle.std.specs.Prelude.{Ok, Err}
use Rattle.meaning.specs.Study.{Runs}
use Rattle.meaning.specs.Grid.{Grid}
use Rattle.meaning.specs.Sheet.{sheet}
use Rattle.meaning.specs.Outcome.{judged, sheet_of, answered_by, answer_of}
use Rattle.meaning.specs.Conditions.{Acceptable}
use Rattle.meaning.specs.Refusals.{FirstUnmet, case_order}
use Rattle.meaning.proofs.Answers.{stops≢passes, stops_same}
use Rattle.meaning.proofs.Judged.{judge_case, judged_pass}
use Rattle.claims.proofs.Accepted.{refused_same, accepted≢refused}
use Rattle.claims.proofs.Listed.{case_listed, case_number}
use Rattle.claims.proofs.HiddenStations.{judged_alike}
use Rattle.claims.proofs.Same.{same_grid}
use Rattle.claims.proofs.Theorems.{judge_is_write, one_sheet_in_either_version, no_file_no_change}
use Rattle.promises.specs.Judging.{RefusalJudged, EveryJudgePromised, JudgesHideStations, JudgesInEitherVersion}

-- ---- what is answered by a judgement: accepted exactly when it passes, a refusal exactly when it stops so
module _ (sheet : List ℕ) where
  accepted_by : (j : Judgement) → (answered_by j sheet ≡ Ok (length sheet)) ↔ (j ≡ Ok tt)
  unfolding answered_by
  accepted_by (Ok _) = (λ e. refl, λ e. refl)
  accepted_by (Err r) = (λ e. absurd (accepted≢refused (sym e)), λ e. absurd (stops≢passes e))

  refused_by : (j : Judgement) (r : Refusal) → (answered_by j sheet ≡ Err r) ↔ (j ≡ Err r)
  unfolding answered_by
  refused_by (Ok _) r = (λ e. absurd (accepted≢refused e), λ e. absurd (stops≢passes (sym e)))
  refused_by (Err q) r = (λ e. ap Err (refused_same e), λ e. ap Err (stops_same e))

module _ (file : List ℕ) (runs : Runs) (share : List ℕ) where
  accepted : (answer_of file runs share ≡ Ok (length (sheet_of file runs share))) ↔ Acceptable file runs share
  unfolding answer_of
  accepted =
      let a = accepted_by (sheet_of file runs share) (judged file runs share) in
      let p = judged_pass file runs share in
      (λ e. p.0 (a.0 e), λ t. a.1 (p.1 t))

  refused : (r : Refusal) → (answer_of file runs share ≡ Err r) ↔ FirstUnmet (case_order file runs share) r
  unfolding answer_of
  refused r =
      let a = refused_by (sheet_of file runs share) (judged file runs share) r in
      let s = (judge_case file runs share).stops r in
      (λ e. s.0 (a.0 e), λ f. a.1 (s.1 f))

  otherwise : (Acceptable file runs share → ⊥) → RefusalJudged file (answer_of file runs share)
  otherwise h = go (judged file runs share) refl
    where
      go : (j : Judgement) → judged file runs share ≡ j → RefusalJudged file (answer_of file runs share)
      go (Ok _) e = absurd (h ((judged_pass file runs share).0 e))
      go (Err r) e =
          let f = ((judge_case file runs share).stops r).0 e in
          record { cause = r; answered = (refused r).1 f; listed = case_listed file runs share r f; number = case_number file runs share r f }

pub every_judge_promised : EveryJudgePromised
every_judge_promised file runs share = record { accepted = accepted file runs share; refused = refused file runs share; otherwise = otherwise file runs share; with_room = judge_is_write file runs share; unshared = λ h. (no_file_no_change file share h).judged runs }

pub judges_hide_stations : JudgesHideStations
unfolding answer_of
judges_hide_stations file file' runs share p q same =
    ap₂ answered_by (judged_alike file file' runs share p q same) (ap (λ (G : Grid). sheet G runs share) (same_grid same))

pub judges_in_either_version : JudgesInEitherVersion
judges_in_either_version file file' runs share same = (one_sheet_in_either_version file file' same).judged runs share
