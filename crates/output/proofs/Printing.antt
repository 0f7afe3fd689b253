-- What the program prints, from what its entry settles in a buffer of 17,408 zeros.
use mathlib.Core.Path.{◌≡◌, refl, sym, ◌∙◌, ap, ap₂, subst}
use mathlib.Core.Bool.{false}
use mathlib.Core.List.{List, ◌++◌}
use Prim.Native.Nat.{ℕ, zero, suc, ◌-◌, ◌≤◌}
use native.Mathlib.Omega.{arith}
use borrow.Author.Tests.{le-leb}
use lib.ListN.{length, drop, replicate, length-replicate, length-append}
use Rattle.meaning.specs.declared.Form.{Form}
use Rattle.meaning.specs.declared.Form.TheVariants.{OneBackground, TwoBackgrounds, Sharing}
use Rattle.meaning.specs.declared.Side.TheVariants.{Generation}
use Rattle.meaning.specs.Grid.{grid_of}
use Rattle.meaning.specs.Figures.{form_of}
use Rattle.meaning.specs.declared.Refusal.{Refusal}
use Rattle.meaning.specs.declared.Refusal.TheVariants.{BadFile}
use Rattle.meaning.specs.Answers.{Judgement}
use Rattle.std.specs.Prelude.{Ok, Err}
use Rattle.meaning.specs.Answers.{Answer}
use Rattle.meaning.specs.declared.Printed.{Printed}
use Rattle.meaning.specs.Answers.{◌or_else◌, unless}
use Rattle.meaning.specs.Study.{Runs}
use Rattle.meaning.specs.File.{file_whole, study_of, runs_in}
use Rattle.meaning.specs.Outcome.{file_stage, tables_stage, judged, sheet_of, Settled, refused, written, buffer_stage, settled_by, settle, refused_line, printed_by, prints}
use Rattle.meaning.specs.Demands.{longest_sheet}
use Rattle.meaning.specs.Calls.{Prints}
use Rattle.meaning.proofs.Judged.{judged_pass}
use Rattle.text.specs.Writing.{Written}
use Rattle.text.specs.Refusing.{Refuses}
use Rattle.claims.proofs.Accepted.{refused_same, accepted_same, accepted≢refused}
use Rattle.claims.proofs.Theorems.{sheets_fit}

abbrev pub zeros : List ℕ
zeros = replicate 17408 0

pub drop_replicate : (n m a : ℕ) → drop n (replicate m a) ≡ replicate (m - n) a
drop_replicate zero m a = let e : m ≡ m - 0 = omega arith in ap (λ (k : ℕ). replicate k a) e
drop_replicate (suc n) zero a = let e : 0 ≡ 0 - suc n = omega arith in ap (λ (k : ℕ). replicate k a) e
drop_replicate (suc n) (suc m) a = let e : m - n ≡ suc m - suc n = omega arith in drop_replicate n m a ∙ ap (λ (k : ℕ). replicate k a) e

-- a file that is not whole is refused as 1, whatever its runs
pub not_whole : (file share : List ℕ) → file_whole file ≡ false → refused_line BadFile ≡ prints file share
unfolding prints printed_by judged tables_stage file_stage unless ◌or_else◌
not_whole file share e = rw e refl

-- a text at the front of zeros
pub printed_front : (text new : List ℕ) (r : ℕ) → Written text zeros new r → Prints text (record { length = r; bytes = new })
printed_front text new r w = record {
  long = w.answer;
  bytes = w.buffer ∙ ap (λ (l : List ℕ). text ++ l) (drop_replicate (length text) 17408 0);
}

pub printed_refusal : (cause : Refusal) (new : List ℕ) (r : ℕ) → Refuses cause zeros new r → Prints (refused_line cause) (record { length = r; bytes = new })
printed_refusal cause new r f = printed_front (refused_line cause) new r (f.long (rw (length-replicate {A = ℕ} 17408 0) (omega arith)))

-- the buffer holds the longest sheet of each form
held : (f : Form) → longest_sheet f ≤ 17408
held OneBackground = omega arith
held TwoBackgrounds = omega arith
held Sharing = omega arith

-- ---- what the entry settles with the file's own runs, in the program's buffer
module _ (file share : List ℕ) where
  abbrev runs : Runs
  runs = runs_in file

  fits : judged file runs share ≡ Ok tt → length (sheet_of file runs share) ≤ length zeros
  fits e = rw (length-replicate {A = ℕ} 17408 0) (omega (arith, sheets_fit file runs share ((judged_pass file runs share).0 e), held (form_of (grid_of (study_of file)) share Generation)))

  -- 12 never comes of it
  refusal_settled : {r : Refusal} → judged file runs share ≡ Err r → settle file runs share zeros ≡ refused r zeros
  unfolding settle settled_by ◌or_else◌
  refusal_settled e = rw e refl

  sheet_settled : judged file runs share ≡ Ok tt → settle file runs share zeros ≡ written (sheet_of file runs share) zeros
  unfolding settle settled_by buffer_stage unless ◌or_else◌
  sheet_settled e = rw (e, le-leb (length (sheet_of file runs share)) (length zeros) (fits e)) refl

  module _ (answer : Answer) (after : List ℕ) (settled : ◌≡◌ {A = Settled} (record { answer = answer; buffer = after }) (settle file runs share zeros)) where
    stopped_answer : {r : Refusal} → judged file runs share ≡ Err r → answer ≡ Err r
    unfolding refused
    stopped_answer e = ap (λ (s : Settled). s.answer) (settled ∙ refusal_settled e)

    passed_answer : judged file runs share ≡ Ok tt → answer ≡ Ok (length (sheet_of file runs share))
    unfolding written
    passed_answer e = ap (λ (s : Settled). s.answer) (settled ∙ sheet_settled e)

    buffer_is : judged file runs share ≡ Ok tt → after ≡ sheet_of file runs share ++ drop (length (sheet_of file runs share)) zeros
    unfolding written
    buffer_is e = ap (λ (s : Settled). s.buffer) (settled ∙ sheet_settled e)

    passed_prints : judged file runs share ≡ Ok tt → sheet_of file runs share ≡ prints file share
    unfolding prints printed_by
    passed_prints e = rw e refl

    pub refusal_printed : {cause : Refusal} → answer ≡ Err cause → refused_line cause ≡ prints file share
    unfolding prints printed_by
    refusal_printed {cause} a = go (judged file runs share) refl
      where
        go : (j : Judgement) → judged file runs share ≡ j → refused_line cause ≡ prints file share
        go (Ok _) e = absurd (accepted≢refused (sym (passed_answer e) ∙ a))
        go (Err r) e = rw (e, refused_same (sym a ∙ stopped_answer e)) refl

    pub sheet_printed : {n : ℕ} → answer ≡ Ok n → Prints (prints file share) (record { length = n; bytes = after })
    unfolding prints printed_by
    sheet_printed {n} a = go (judged file runs share) refl
      where
        go : (j : Judgement) → judged file runs share ≡ j → Prints (prints file share) (record { length = n; bytes = after })
        go (Err r) e = absurd (accepted≢refused (sym a ∙ stopped_answer e))
        go (Ok _) e =
            subst (λ (text : List ℕ). Prints text (record { length = n; bytes = after })) (passed_prints e)
            (printed_front (sheet_of file runs share) after n (record { buffer = buffer_is e; answer = accepted_same (sym a ∙ passed_answer e) }))

-- equal inputs print alike
pub printed_of : {r : Printed} (input input' share share' : List ℕ) → input ≡ input' → share ≡ share' → Prints (prints input share) r → Prints (prints input' share') r
printed_of {r = r} input input' share share' e f p = subst (λ (l : List ℕ). Prints l r) (ap₂ prints e f) p

-- what is printed stands inside the buffer
pub printed_inside : (text : List ℕ) (r : Printed) → Prints text r → r.length ≤ length r.bytes
printed_inside text r p = omega (arith, p.long, ap {B = ℕ} length p.bytes ∙ length-append text (replicate (17408 - length text) 0))
