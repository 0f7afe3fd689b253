-- The demands hold of every call of the exported entry: its numbers tell the answer of 01's table.
use mathlib.Core.Path.{◌≡◌, refl, sym, ◌∙◌, ap, subst}
use mathlib.Core.Logic.{◌↔◌, ◌⊎◌, inl, inr, ◌≢◌}
use mathlib.Core.List.{List, ◌++◌}
use Prim.Native.Nat.{ℕ}
use lib.ListN.{length, get_or, take, drop}
use lib.Seq.{take_at}
use Rattle.meaning.specs.declared.Refusal.{Refusal}
use Rattle.meaning.specs.declared.Values.{Values}
use Rattle.meaning.specs.Answers.{Answer}
use Rattle.std.specs.Prelude.{Ok, Err}
use Rattle.meaning.specs.Answers.{values}
use Rattle.meaning.specs.File.{study_of}
use Rattle.meaning.specs.Grid.{grid_of}
use Rattle.meaning.specs.Outcome.{sheet_of, Settled, settle, written, refused}
use Rattle.meaning.specs.Refusals.{Stopped}
use Rattle.meaning.specs.Demands.{Accepting, Recovered, SameButStations, Agree, PassesToFive}
use Rattle.meaning.specs.Mirror.{ShowsMirror}
use Rattle.meaning.specs.Shares.{ShowsParts}
use Rattle.meaning.specs.Versions.{SayTheSame}
use Rattle.meaning.specs.Distances.{DistancesWithin}
use Rattle.meaning.specs.OnlyDirections.{Asked, BothFirst, Holds}
use Rattle.meaning.specs.Calls.{Call, Kept, four, Tells, ToldCall, ToldKept}
use Rattle.meaning.proofs.Table.{values_tell, number_positive}
use Rattle.claims.proofs.Listed.{stopped_listed}
use Rattle.claims.proofs.Theorems.{accepted_exactly_when, refused_exactly_when, one_answer, no_file_no_change}
use Rattle.promises.specs.Calls.{IsAccepted, sheet_in, Promised, BothPromised}
use Rattle.promises.specs.Exported.{sheet_at, RefusalTold, ToldPromised, EveryToldPromised, EveryTwoTold}
use Rattle.promises.proofs.Calls.{every_call_promised, every_two_promised}

-- equal fours are of equal numbers
nth : (k : ℕ) {v w : Values} → four v ≡ four w → get_or (four v) k 0 ≡ get_or (four w) k 0
nth k e = ap (λ (l : List ℕ). get_or l k 0) e

module _ (c : ToldCall) (kept : ToldKept c) where
  -- the call as `sheet::write` has it: its answer is the one that is told
  abbrev inner : Call
  inner =
      record {
        file = c.file;
        runs = c.runs;
        share = c.share;
        before = c.before;
        answer = (settle c.file c.runs c.share c.before).answer;
        after = c.after;
      }

  inner_kept : Kept inner
  inner_kept = record { contract = ap (λ (b : List ℕ). record { answer = (settle c.file c.runs c.share c.before).answer; buffer = b }) kept.buffer }

  whole : Promised inner
  whole = every_call_promised inner inner_kept

  abbrev n : ℕ
  n = length (sheet_of c.file c.runs c.share)

  told_is : (a : Answer) → inner.answer ≡ a → (c.result ≡ (values a).number) × (c.numbers ≡ four (values a))
  told_is a e = (kept.answer.number ∙ ap (λ (x : Answer). (values x).number) e, kept.answer.numbers ∙ ap (λ (x : Answer). four (values x)) e)

  -- accepted
  accepting_answer : Accepting c.file c.runs c.share c.before → inner.answer ≡ Ok n
  unfolding written
  accepting_answer t = ap (λ (s : Settled). s.answer) ((accepted_exactly_when c.file c.runs c.share c.before).accepted.1 t)

  zero_told : Accepting c.file c.runs c.share c.before → c.result ≡ 0
  unfolding values
  zero_told t = (told_is (Ok n) (accepting_answer t)).0

  -- refused
  refused_number : (r : Refusal) → Stopped c.file c.runs c.share c.before r → c.result ≡ (values (Err r)).number
  refused_number r f = (told_is (Err r) ((whole.refused r).1 f)).0

  stopped_untouched : (r : Refusal) → Stopped c.file c.runs c.share c.before r → c.after ≡ c.before
  unfolding refused
  stopped_untouched r f = kept.buffer ∙ ap (λ (s : Settled). s.buffer) ((refused_exactly_when c.file c.runs c.share c.before r).untouched f)

  accepting : c.result ≡ 0 → Accepting c.file c.runs c.share c.before
  accepting e = go (one_answer c.file c.runs c.share c.before).either
    where
      go : Accepting c.file c.runs c.share c.before ⊎ ((r : Refusal) × Stopped c.file c.runs c.share c.before r) → Accepting c.file c.runs c.share c.before
      go (inl t) = t
      go (inr (r, f)) = absurd (number_positive r (sym (refused_number r f) ∙ e))

  is_refusal : c.result ≢ 0 → RefusalTold c
  is_refusal h = go (one_answer c.file c.runs c.share c.before).either
    where
      go : Accepting c.file c.runs c.share c.before ⊎ ((r : Refusal) × Stopped c.file c.runs c.share c.before r) → RefusalTold c
      go (inl t) = absurd (h (zero_told t))
      go (inr (r, f)) =
          record {
            cause = r;
            stopped = f;
            listed = stopped_listed c.file c.runs c.share c.before r f;
            number = refused_number r f;
            untouched = stopped_untouched r f;
          }

  accepted_buffer : c.result ≡ 0 → c.after ≡ sheet_of c.file c.runs c.share ++ drop n c.before
  unfolding written
  accepted_buffer e = kept.buffer ∙ ap (λ (s : Settled). s.buffer) ((accepted_exactly_when c.file c.runs c.share c.before).accepted.1 (accepting e))

  sheet_found : c.result ≡ 0 → sheet_at c n ≡ sheet_of c.file c.runs c.share
  sheet_found e = ap (take n) (accepted_buffer e) ∙ take_at (sheet_of c.file c.runs c.share) _ _ refl

  -- ---- the four numbers
  told_four : (a : Answer) → inner.answer ≡ a → c.numbers ≡ four (values a)
  told_four a e = (told_is a e).1

  length_told_lem : (c.numbers ≡ four (values (Ok n))) ↔ Accepting c.file c.runs c.share c.before
  unfolding values
  length_told_lem = (λ e. go e (one_answer c.file c.runs c.share c.before).either, λ t. told_four (Ok n) (accepting_answer t))
    where
      go : c.numbers ≡ four (values (Ok n))
          → Accepting c.file c.runs c.share c.before ⊎ ((r : Refusal) × Stopped c.file c.runs c.share c.before r) → Accepting c.file c.runs c.share c.before
      go e (inl t) = t
      go e (inr (r, f)) = absurd (number_positive r (nth 0 (sym (told_four (Err r) ((whole.refused r).1 f)) ∙ e)))

  refusal_told_lem : (r : Refusal) → (c.numbers ≡ four (values (Err r))) ↔ Stopped c.file c.runs c.share c.before r
  unfolding values
  refusal_told_lem r = (λ e. go e (one_answer c.file c.runs c.share c.before).either, λ f. told_four (Err r) ((whole.refused r).1 f))
    where
      go : c.numbers ≡ four (values (Err r))
          → Accepting c.file c.runs c.share c.before ⊎ ((q : Refusal) × Stopped c.file c.runs c.share c.before q) → Stopped c.file c.runs c.share c.before r
      go e (inl t) = absurd (number_positive r (nth 0 (sym e ∙ told_four (Ok n) (accepting_answer t))))
      go e (inr (q, f)) =
          let same = sym (told_four (Err q) ((whole.refused q).1 f)) ∙ e in
          subst (Stopped c.file c.runs c.share c.before) (values_tell q r (nth 0 same) (nth 1 same) (nth 2 same)) f

  -- ---- the promises of the call that it makes, read from the numbers
  is_accepted : c.result ≡ 0 → IsAccepted inner
  is_accepted e = accepting_answer (accepting e)

  sheet_in_lem : c.result ≡ 0 → sheet_in inner ≡ sheet_at c n
  unfolding values
  sheet_in_lem e = ap (λ (a : Answer). take (values a).length c.after) (accepting_answer (accepting e))

  promised : ToldPromised c
  promised = record {
    accepted = (accepting, zero_told);
    sheet = sheet_found;
    behind = accepted_buffer;
    otherwise = is_refusal;
    length_told = length_told_lem;
    refusal_told = refusal_told_lem;
    revenue = λ e. subst (Recovered (grid_of (study_of c.file)) c.share) (sheet_in_lem e) (whole.revenue (is_accepted e));
    parts = λ e. subst (ShowsParts (grid_of (study_of c.file)) c.runs c.share) (sheet_in_lem e) (whole.parts (is_accepted e));
    unshared = λ h.
        let n = (no_file_no_change c.file c.share h).settled c.runs c.before in
        (subst (λ (s : Settled). Tells s.answer c.numbers c.result) n kept.answer, kept.buffer ∙ ap (λ (s : Settled). s.buffer) n);
    mirror = λ e. subst (ShowsMirror (grid_of (study_of c.file)) c.share) (sheet_in_lem e) (whole.mirror (is_accepted e));
  }

pub every_told_promised : EveryToldPromised
every_told_promised = promised

pub every_two_told : EveryTwoTold
every_two_told c d kept_c kept_d = record { agree = agree; hidden = hidden; either = either; directions = directions }
  where
    two : BothPromised (inner c kept_c) (inner d kept_d)
    two = every_two_promised (inner c kept_c) (inner d kept_d) (inner_kept c kept_c) (inner_kept d kept_d)

    -- what is so of the bytes that the inner calls leave is so of these
    seen : (P : (sheet sheet' : List ℕ) → Type 0) → c.result ≡ 0 → d.result ≡ 0 → P (sheet_in (inner c kept_c)) (sheet_in (inner d kept_d))
        → P (sheet_at c (n c kept_c)) (sheet_at d (n d kept_d))
    seen P e f p = subst (λ (l : List ℕ). P l (sheet_at d (n d kept_d))) (sheet_in_lem c kept_c e) (subst (P (sheet_in (inner c kept_c))) (sheet_in_lem d kept_d f) p)

    agree : c.result ≡ 0 → d.result ≡ 0 → SameButStations (study_of c.file) (study_of d.file) → c.share ≡ d.share
        → Agree (study_of c.file) c.runs d.runs c.share (sheet_at c (n c kept_c)) (sheet_at d (n d kept_d))
    agree e f same share = seen (Agree (study_of c.file) c.runs d.runs c.share) e f (two.agree (is_accepted c kept_c e) (is_accepted d kept_d f) same share)

    directions : c.result ≡ 0 → d.result ≡ 0 → BothFirst (study_of c.file) (study_of d.file) → ((a : Asked) → Holds a (study_of c.file) (study_of d.file) c.runs d.runs)
        → DistancesWithin 1 (grid_of (study_of c.file)) (grid_of (study_of d.file)) c.runs d.runs c.share d.share (sheet_at c (n c kept_c)) (sheet_at d (n d kept_d))
    directions e f first all =
        seen (DistancesWithin 1 (grid_of (study_of c.file)) (grid_of (study_of d.file)) c.runs d.runs c.share d.share) e f
        (two.directions (is_accepted c kept_c e) (is_accepted d kept_d f) first all)

    -- one answer is told in one way
    told : (inner c kept_c).answer ≡ (inner d kept_d).answer → (c.result ≡ d.result) × (c.numbers ≡ d.numbers)
    told a = (
      kept_c.answer.number ∙ ap (λ (x : Answer). (values x).number) a ∙ sym kept_d.answer.number,
      kept_c.answer.numbers ∙ ap (λ (x : Answer). four (values x)) a ∙ sym kept_d.answer.numbers,
    )

    hidden : c.runs ≡ d.runs → c.share ≡ d.share → PassesToFive c.file c.runs → PassesToFive d.file d.runs
        → SameButStations (study_of c.file) (study_of d.file) → length c.before ≡ length d.before
        → (c.result ≡ d.result) × (c.numbers ≡ d.numbers)
    hidden runs share p q same e = told (two.hidden runs share p q same e)

    either : SayTheSame c.file d.file → c.runs ≡ d.runs → c.share ≡ d.share → c.before ≡ d.before
        → (c.result ≡ d.result) × (c.numbers ≡ d.numbers) × (c.after ≡ d.after)
    either same runs share before =
        let one = two.either same runs share before in
        let t = told one.0 in
        (t.0, t.1, one.1)
