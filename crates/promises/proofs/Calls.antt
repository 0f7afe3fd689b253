-- The demands hold of every call of the entry.
use mathlib.Core.Path.{◌≡◌, refl, sym, ◌∙◌, ap, ap₂, subst}
use mathlib.Core.Logic.{◌↔◌, ◌⊎◌, inl, inr}
use mathlib.Core.List.{List, ◌++◌}
use Prim.Native.Nat.{ℕ}
use lib.ListN.{length, take, drop}
use lib.Seq.{take_at}
use Rattle.meaning.specs.declared.Refusal.{Refusal}
use Rattle.std.specs.Prelude.{Err}
use Rattle.meaning.specs.Answers.{values}
use Rattle.meaning.specs.Study.{Runs}
use Rattle.meaning.specs.File.{study_of}
use Rattle.meaning.specs.Grid.{grid_of}
use Rattle.meaning.specs.Outcome.{sheet_of, Settled, settle, written, refused}
use Rattle.meaning.specs.Conditions.{Acceptable}
use Rattle.meaning.specs.Demands.{IsWritten, IsRefused, Recovered, SameButStations, Agree, PassesToFive}
use Rattle.meaning.specs.Mirror.{ShowsMirror}
use Rattle.meaning.specs.Shares.{ShowsParts}
use Rattle.meaning.specs.Versions.{SayTheSame}
use Rattle.meaning.specs.Distances.{DistancesWithin}
use Rattle.meaning.specs.OnlyDirections.{Asked, BothFirst, Holds}
use Rattle.claims.proofs.Accepted.{accepted≢refused}
use Rattle.claims.proofs.Theorems.{every_input_settled, accepted_exactly_when, refused_exactly_when, revenue_recovered, solvers_agree, stations_hidden, printed_mirror, one_sheet_in_either_version, only_directions_count, no_file_no_change, printed_parts}
use Rattle.meaning.specs.Refusals.{Stopped}
use Rattle.meaning.specs.Calls.{Call, Kept}
use Rattle.promises.specs.Calls.{IsAccepted, sheet_in, IsRefusal, Promised, EveryCallPromised, EveryTwoPromised}

module _ (c : Call) (kept : Kept c) where
  -- what is written, seen by the caller
  written_accepted : IsWritten c.file c.runs c.share c.before → IsAccepted c
  unfolding written
  written_accepted w = ap (λ (s : Settled). s.answer) (kept.contract ∙ w)

  written_sheet : IsWritten c.file c.runs c.share c.before → sheet_in c ≡ sheet_of c.file c.runs c.share
  unfolding written values
  written_sheet w = ap (λ (s : Settled). take (values s.answer).length s.buffer) (kept.contract ∙ w) ∙ take_at (sheet_of c.file c.runs c.share) _ _ refl

  written_behind : IsWritten c.file c.runs c.share c.before → c.after ≡ sheet_in c ++ drop (values c.answer).length c.before
  unfolding written values
  written_behind w =
      ap (λ (s : Settled). s.buffer) (kept.contract ∙ w)
      ∙ ap (λ (l : List ℕ). l ++ drop (length (sheet_of c.file c.runs c.share)) c.before) (sym (written_sheet w))
      ∙ ap (λ (k : ℕ). sheet_in c ++ drop k c.before) (sym (ap (λ (s : Settled). (values s.answer).length) (kept.contract ∙ w)))

  -- what is refused, seen by the caller
  refused_answer : (r : IsRefused c.file c.runs c.share c.before) → c.answer ≡ Err r.cause
  unfolding refused
  refused_answer r = ap (λ (s : Settled). s.answer) (kept.contract ∙ r.settled)

  refused_call : IsRefused c.file c.runs c.share c.before → IsRefusal c
  unfolding refused
  refused_call r = record {
    cause = r.cause;
    answered = refused_answer r;
    listed = r.listed;
    untouched = ap (λ (s : Settled). s.buffer) (kept.contract ∙ r.settled);
  }

  settled : IsAccepted c ⊎ IsRefusal c
  settled = go (every_input_settled c.file c.runs c.share c.before)
    where
      go : IsWritten c.file c.runs c.share c.before ⊎ IsRefused c.file c.runs c.share c.before → IsAccepted c ⊎ IsRefusal c
      go (inl w) = inl (written_accepted w)
      go (inr r) = inr (refused_call r)

  accepted_written : IsAccepted c → IsWritten c.file c.runs c.share c.before
  accepted_written a = go (every_input_settled c.file c.runs c.share c.before)
    where
      go : IsWritten c.file c.runs c.share c.before ⊎ IsRefused c.file c.runs c.share c.before → IsWritten c.file c.runs c.share c.before
      go (inl w) = w
      go (inr r) = absurd (accepted≢refused (sym a ∙ refused_answer r))

  acceptable : IsAccepted c → Acceptable c.file c.runs c.share
  acceptable a = ((accepted_exactly_when c.file c.runs c.share c.before).accepted.0 (accepted_written a)).0

  refused_when : (r : Refusal) → (c.answer ≡ Err r) ↔ Stopped c.file c.runs c.share c.before r
  refused_when r =
      let e = ap (λ (s : Settled). s.answer) kept.contract in
      let w = (refused_exactly_when c.file c.runs c.share c.before r).exactly in
      (λ a. w.0 (sym e ∙ a), λ f. e ∙ w.1 f)

  promised : Promised c
  promised =
      let w = (accepted_exactly_when c.file c.runs c.share c.before).accepted in
      record {
        settled = settled;
        accepted = (λ a. w.0 (accepted_written a), λ t. written_accepted (w.1 t));
        sheet = λ a. written_sheet (accepted_written a);
        behind = λ a. written_behind (accepted_written a);
        refused = refused_when;
        revenue = λ a.
            subst (λ (l : List ℕ). Recovered (grid_of (study_of c.file)) c.share l) (sym (written_sheet (accepted_written a)))
            (revenue_recovered c.file c.runs c.share (acceptable a));
        parts = λ a.
            subst (λ (l : List ℕ). ShowsParts (grid_of (study_of c.file)) c.runs c.share l) (sym (written_sheet (accepted_written a)))
            (printed_parts c.file c.runs c.share (acceptable a));
        unshared = λ h. kept.contract ∙ (no_file_no_change c.file c.share h).settled c.runs c.before;
        mirror = λ a.
            subst (λ (l : List ℕ). ShowsMirror (grid_of (study_of c.file)) c.share l) (sym (written_sheet (accepted_written a)))
            (printed_mirror c.file c.runs c.share (acceptable a));
      }

pub every_call_promised : EveryCallPromised
every_call_promised = promised

pub every_two_promised : EveryTwoPromised
every_two_promised c d kept_c kept_d = record { agree = agree; hidden = hidden; either = either; directions = directions }
  where
    either : SayTheSame c.file d.file → c.runs ≡ d.runs → c.share ≡ d.share → c.before ≡ d.before → (c.answer ≡ d.answer) × (c.after ≡ d.after)
    either same runs share before = (ap (λ (s : Settled). s.answer) one, ap (λ (s : Settled). s.buffer) one)
      where
        one : ◌≡◌ {A = Settled} (record { answer = c.answer; buffer = c.after }) (record { answer = d.answer; buffer = d.after })
        one =
            kept_c.contract
            ∙ (one_sheet_in_either_version c.file d.file same).settled c.runs c.share c.before
            ∙ ap₂ (λ (r : Runs) (h : List ℕ). settle d.file r h c.before) runs share
            ∙ ap (λ (b : List ℕ). settle d.file d.runs d.share b) before
            ∙ sym kept_d.contract

    -- what is so of the two sheets is so of the bytes that the callers find
    seen : (P : (sheet sheet' : List ℕ) → Type 0) → IsAccepted c → IsAccepted d → P (sheet_of c.file c.runs c.share) (sheet_of d.file d.runs d.share) → P (sheet_in c) (sheet_in d)
    seen P a b p = subst (λ (l : List ℕ). P l (sheet_in d)) (sym ((promised c kept_c).sheet a)) (subst (P (sheet_of c.file c.runs c.share)) (sym ((promised d kept_d).sheet b)) p)

    agree : IsAccepted c → IsAccepted d → SameButStations (study_of c.file) (study_of d.file) → c.share ≡ d.share
        → Agree (study_of c.file) c.runs d.runs c.share (sheet_in c) (sheet_in d)
    agree a b same share =
        seen (Agree (study_of c.file) c.runs d.runs c.share) a b
        (subst (λ (h : List ℕ). Agree (study_of c.file) c.runs d.runs c.share (sheet_of c.file c.runs c.share) (sheet_of d.file d.runs h)) share
        (solvers_agree c.file d.file c.runs d.runs c.share (acceptable c kept_c a) (subst (Acceptable d.file d.runs) (sym share) (acceptable d kept_d b)) same))

    directions : IsAccepted c → IsAccepted d → BothFirst (study_of c.file) (study_of d.file) → ((a : Asked) → Holds a (study_of c.file) (study_of d.file) c.runs d.runs)
        → DistancesWithin 1 (grid_of (study_of c.file)) (grid_of (study_of d.file)) c.runs d.runs c.share d.share (sheet_in c) (sheet_in d)
    directions a b first all =
        seen (DistancesWithin 1 (grid_of (study_of c.file)) (grid_of (study_of d.file)) c.runs d.runs c.share d.share) a b
        (only_directions_count c.file d.file c.runs d.runs c.share d.share (acceptable c kept_c a) (acceptable d kept_d b) first all)

    hidden : c.runs ≡ d.runs → c.share ≡ d.share → PassesToFive c.file c.runs → PassesToFive d.file d.runs
        → SameButStations (study_of c.file) (study_of d.file) → length c.before ≡ length d.before → c.answer ≡ d.answer
    hidden runs share p q same e =
        ap (λ (s : Settled). s.answer) kept_c.contract
        ∙ stations_hidden c.file d.file c.runs c.share c.before d.before p (subst (λ (r : Runs). PassesToFive d.file r) (sym runs) q) same e
        ∙ ap₂ (λ (r : Runs) (h : List ℕ). (settle d.file r h d.before).answer) runs share
        ∙ sym (ap (λ (s : Settled). s.answer) kept_d.contract)
