-- Demand 1, and demand 2's first half: every input is settled, accepted exactly when, and refused exactly when.
use mathlib.Core.Path.{◌≡◌, refl, sym, ◌∙◌, ap}
use mathlib.Core.Logic.{◌⊎◌, inl, inr, ◌↔◌}
use mathlib.Core.List.{List, [], ◌∷◌}
use mathlib.Core.Bool.{Bool, true, false, true≢false}
use Prim.Native.Nat.{ℕ, ◌≤◌}
use lib.ListN.{length}
use Rattle.meaning.specs.Study.{Runs}
use Rattle.meaning.specs.declared.Refusal.{Refusal}
use Rattle.meaning.specs.declared.Refusal.TheVariants.{BadFile, ShortBuffer}
use Rattle.meaning.specs.Answers.{Judgement}
use Rattle.std.specs.Prelude.{Ok, Err}
use Rattle.meaning.specs.Answers.{Answer}
use Rattle.meaning.specs.Answers.{◌or_else◌}
use Rattle.meaning.specs.Outcome.{judged, sheet_of, Settled, refused, written, buffer_stage, settled_by, settle}
use Rattle.meaning.specs.Refusals.{whole, AllMet, Stopped, case_order, order}
use Rattle.meaning.specs.Demands.{IsWritten, IsRefused, EveryInputSettled, AcceptedExactlyWhen, RefusedExactlyWhen, Accepting, OneAnswer}
use Rattle.meaning.proofs.Answers.{stops≢passes, stops_same}
use Rattle.meaning.proofs.Order.{both_met}
use Rattle.meaning.proofs.Judged.{judge_all, case_met}
use Rattle.claims.proofs.Listed.{stopped_listed}

-- ---- answers told apart
accepts : Answer → Bool
accepts (Ok n) = true
accepts (Err r) = false

-- why an answer refuses
cause : Answer → Refusal
cause (Ok n) = BadFile
cause (Err r) = r

pub refused_same : {q r : Refusal} → ◌≡◌ {A = Answer} (Err q) (Err r) → q ≡ r
unfolding cause
refused_same e = ap cause e

pub accepted≢refused : {n : ℕ} {r : Refusal} → ◌≡◌ {A = Answer} (Ok n) (Err r) → ⊥
unfolding accepts
accepted≢refused e = true≢false (ap accepts e)

-- how long an accepted sheet is
length_of : Answer → ℕ
length_of (Ok n) = n
length_of (Err r) = 0

pub accepted_same : {m n : ℕ} → ◌≡◌ {A = Answer} (Ok m) (Ok n) → m ≡ n
unfolding length_of
accepted_same e = ap length_of e

-- ---- what is settled by a judgement: the sheet exactly when it passes, a refusal exactly when it stops so
module _ (sheet buffer : List ℕ) where
  sheet_settled : (j : Judgement) → (settled_by j sheet buffer ≡ written sheet buffer) ↔ (j ≡ Ok tt)
  unfolding settled_by written refused
  sheet_settled (Ok _) = (λ e. refl, λ e. refl)
  sheet_settled (Err r) =
      (λ e. absurd (accepted≢refused (sym (ap (λ (s : Settled). s.answer) e))), λ e. absurd (stops≢passes e))

  refusal_settled : (j : Judgement) (r : Refusal) → ((settled_by j sheet buffer).answer ≡ Err r) ↔ (j ≡ Err r)
  unfolding settled_by written refused
  refusal_settled (Ok _) r = (λ e. absurd (accepted≢refused e), λ e. absurd (stops≢passes (sym e)))
  refusal_settled (Err q) r = (λ e. ap Err (refused_same e), λ e. ap Err (stops_same e))

module _ (file : List ℕ) (runs : Runs) (share buffer : List ℕ) where
  abbrev verdict : Judgement
  verdict = judged file runs share or_else buffer_stage (sheet_of file runs share) buffer

  -- the conditions of the whole order are those of acceptance
  all_met : AllMet (order file runs share buffer) ↔ Accepting file runs share buffer
  all_met =
      let b = both_met (case_order file runs share) (whole (length (sheet_of file runs share) ≤ length buffer) ShortBuffer ∷ []) in
      let c = case_met file runs share in
      (λ m. let t = b.0 m in (c.0 t.0, t.1.0), λ a. b.1 (c.1 a.0, (a.1, tt)))

  passing : (verdict ≡ Ok tt) ↔ Accepting file runs share buffer
  passing =
      let p = (judge_all file runs share buffer).passes in
      (λ e. all_met.0 (p.0 e), λ a. p.1 (all_met.1 a))

  exactly : IsWritten file runs share buffer ↔ Accepting file runs share buffer
  unfolding settle
  exactly =
      let s = sheet_settled (sheet_of file runs share) buffer verdict in
      (λ e. passing.0 (s.0 e), λ a. s.1 (passing.1 a))

  answered : (r : Refusal) → ((settle file runs share buffer).answer ≡ Err r) ↔ Stopped file runs share buffer r
  unfolding settle
  answered r =
      let s = refusal_settled (sheet_of file runs share) buffer verdict r in
      let k = (judge_all file runs share buffer).stops r in
      (λ e. k.0 (s.0 e), λ f. s.1 (k.1 f))

  stopped : (r : Refusal) → Stopped file runs share buffer r → settle file runs share buffer ≡ refused r buffer
  unfolding settle settled_by
  stopped r f = ap (λ (j : Judgement). settled_by j (sheet_of file runs share) buffer) (((judge_all file runs share buffer).stops r).1 f)

  either : Accepting file runs share buffer ⊎ ((r : Refusal) × Stopped file runs share buffer r)
  either = go verdict refl
    where
      go : (j : Judgement) → verdict ≡ j → Accepting file runs share buffer ⊎ ((r : Refusal) × Stopped file runs share buffer r)
      go (Ok _) e = inl (passing.0 e)
      go (Err r) e = inr (r, ((judge_all file runs share buffer).stops r).0 e)

-- ---- demands 1 and 2: which refusal
pub refused_exactly_when : RefusedExactlyWhen
refused_exactly_when file runs share buffer r = record { exactly = answered file runs share buffer r; untouched = stopped file runs share buffer r }

pub one_answer : OneAnswer
one_answer file runs share buffer = record {
  either = either file runs share buffer;
  not_both = λ a r f. stops≢passes (sym (((judge_all file runs share buffer).stops r).1 f) ∙ (passing file runs share buffer).1 a);
  only_one = λ q r f g. refused_same (sym ((answered file runs share buffer q).1 f) ∙ (answered file runs share buffer r).1 g);
}

-- ---- demand 1
pub every_input_settled : EveryInputSettled
every_input_settled file runs share buffer = go (either file runs share buffer)
  where
    go : Accepting file runs share buffer ⊎ ((r : Refusal) × Stopped file runs share buffer r) → IsWritten file runs share buffer ⊎ IsRefused file runs share buffer
    go (inl a) = inl ((exactly file runs share buffer).1 a)
    go (inr (r, f)) =
        inr (record { cause = r; listed = stopped_listed file runs share buffer r f; settled = stopped file runs share buffer r f })

-- ---- demand 2, first half
pub accepted_exactly_when : AcceptedExactlyWhen
accepted_exactly_when file runs share buffer = record { accepted = exactly file runs share buffer; otherwise = else (every_input_settled file runs share buffer) }
  where
    else : IsWritten file runs share buffer ⊎ IsRefused file runs share buffer → (Accepting file runs share buffer → ⊥) → IsRefused file runs share buffer
    else (inl w) f = absurd (f ((exactly file runs share buffer).0 w))
    else (inr r) f = r
