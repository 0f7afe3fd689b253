-- The demands hold of every file that the program is given.
use mathlib.Core.Path.{◌≡◌, refl, sym, ◌∙◌, ap, ap₂, subst}
use mathlib.Core.List.{List}
use Prim.Native.Nat.{ℕ, ◌-◌}
use native.Mathlib.Omega.{arith}
use lib.ListN.{length, get_or, take, replicate}
use lib.Seq.{take_at}
use Rattle.meaning.specs.declared.Printed.{Printed}
use Rattle.meaning.specs.declared.Refusal.{Refusal}
use Rattle.meaning.specs.Answers.{Judgement}
use Rattle.std.specs.Prelude.{Ok, Err}
use Rattle.meaning.specs.Study.{Runs}
use Rattle.meaning.specs.File.{study_of, runs_in}
use Rattle.meaning.specs.Grid.{Grid, grid_of}
use Rattle.meaning.specs.Text.{line}
use Rattle.meaning.specs.Sheet.{constant_fields, sheet_text, sheet}
use Rattle.meaning.specs.Outcome.{judged, sheet_of, refused_fields, refused_line, printed_by, prints}
use Rattle.meaning.specs.Conditions.{Acceptable}
use Rattle.meaning.specs.Refusals.{FirstUnmet, case_order}
use Rattle.meaning.specs.Demands.{Recovered, SameButStations, Agree, PassesToFive}
use Rattle.meaning.specs.Mirror.{ShowsMirror}
use Rattle.meaning.specs.Shares.{ShowsParts}
use Rattle.meaning.specs.Distances.{DistancesWithin}
use Rattle.meaning.specs.OnlyDirections.{Asked, BothFirst, Holds}
use Rattle.meaning.proofs.Judged.{judge_case, judged_pass}
use Rattle.claims.proofs.Listed.{case_listed, case_number}
use Rattle.claims.proofs.Told.{line_told}
use Rattle.claims.proofs.HiddenStations.{judged_alike}
use Rattle.claims.proofs.Same.{same_grid}
use Rattle.claims.proofs.Theorems.{revenue_recovered, solvers_agree, printed_mirror, one_sheet_in_either_version, only_directions_count, no_file_no_change, printed_parts, share_cut}
use Rattle.output.proofs.Cut.{input_cut}
use Rattle.meaning.specs.Calls.{Prints}
use Rattle.promises.specs.Program.{shown, RefusalPrinted, PrintPromised, EveryPrintPromised, BothPrinted, EveryTwoPrinted, Filled, EveryReadPromised}

-- a sheet starts with `C`, and a refusal's line with `r`
sheet_starts : (G : Grid) (runs : Runs) (share : List ℕ) → get_or (sheet G runs share) 0 0 ≡ 67
unfolding sheet sheet_text constant_fields line
sheet_starts G runs share = refl

line_starts : (r : Refusal) → get_or (refused_line r) 0 0 ≡ 114
unfolding refused_line refused_fields line
line_starts r = refl

module _ (file share : List ℕ) where
  abbrev runs : Runs
  runs = runs_in file

  passes_sheet : judged file runs share ≡ Ok tt → prints file share ≡ sheet_of file runs share
  unfolding prints printed_by
  passes_sheet e = rw e refl

  stops_line : (r : Refusal) → judged file runs share ≡ Err r → prints file share ≡ refused_line r
  unfolding prints printed_by
  stops_line r e = rw e refl

  accepted_sheet : Acceptable file runs share → prints file share ≡ sheet_of file runs share
  accepted_sheet a = passes_sheet ((judged_pass file runs share).1 a)

  apart : (r : Refusal) → sheet_of file runs share ≡ refused_line r → ⊥
  apart r e =
      let h : ◌≡◌ {A = ℕ} 67 114 = sym (sheet_starts (grid_of (study_of file)) runs share) ∙ ap {B = ℕ} (λ (l : List ℕ). get_or l 0 0) e ∙ line_starts r in
      omega (arith, h)

  refusal : (r : Refusal) → judged file runs share ≡ Err r → RefusalPrinted file share (prints file share)
  refusal r e =
      let f = ((judge_case file runs share).stops r).0 e in
      record { cause = r; stopped = f; listed = case_listed file runs share r f; number = case_number file runs share r f; line = stops_line r e }

  sheet_accepted : prints file share ≡ sheet_of file runs share → Acceptable file runs share
  sheet_accepted p = go (judged file runs share) refl
    where
      go : (j : Judgement) → judged file runs share ≡ j → Acceptable file runs share
      go (Ok _) e = (judged_pass file runs share).0 e
      go (Err r) e = absurd (apart r (sym p ∙ stops_line r e))

  line_stopped : (r : Refusal) → prints file share ≡ refused_line r → FirstUnmet (case_order file runs share) r
  line_stopped r p = go (judged file runs share) refl
    where
      go : (j : Judgement) → judged file runs share ≡ j → FirstUnmet (case_order file runs share) r
      go (Ok _) e = absurd (apart r (sym (passes_sheet e) ∙ p))
      go (Err q) e = ((judge_case file runs share).stops r).0 (e ∙ ap Err (line_told q r (sym (stops_line q e) ∙ p)))

  stopped_line : (r : Refusal) → FirstUnmet (case_order file runs share) r → prints file share ≡ refused_line r
  stopped_line r f = stops_line r (((judge_case file runs share).stops r).1 f)

  otherwise : (Acceptable file runs share → ⊥) → RefusalPrinted file share (prints file share)
  otherwise f = go (judged file runs share) refl
    where
      go : (j : Judgement) → judged file runs share ≡ j → RefusalPrinted file share (prints file share)
      go (Ok _) e = absurd (f ((judged_pass file runs share).0 e))
      go (Err r) e = refusal r e

  promised : PrintPromised file share (prints file share)
  promised = record {
    sheet = (sheet_accepted, accepted_sheet);
    refused = λ r. (line_stopped r, stopped_line r);
    otherwise = otherwise;
    revenue = λ a. subst (λ (l : List ℕ). Recovered (grid_of (study_of file)) share l) (sym (accepted_sheet a)) (revenue_recovered file runs share a);
    parts = λ a. subst (λ (l : List ℕ). ShowsParts (grid_of (study_of file)) runs share l) (sym (accepted_sheet a)) (printed_parts file runs share a);
    unshared = λ h. (no_file_no_change file share h).printed;
    mirror = λ a. subst (λ (l : List ℕ). ShowsMirror (grid_of (study_of file)) share l) (sym (accepted_sheet a)) (printed_mirror file runs share a);
  }

-- the bytes that are written are the text
shown_is : (text : List ℕ) (r : Printed) → Prints text r → text ≡ shown r
shown_is text r p =
    sym (ap₂ (λ (n : ℕ) (l : List ℕ). take n l) p.long p.bytes ∙ take_at text (replicate (17408 - length text) 0) _ refl)

pub every_print_promised : EveryPrintPromised
every_print_promised file share r p = subst (PrintPromised file share) (shown_is (prints file share) r p) (promised file share)

both : (file file' share share' : List ℕ) → BothPrinted file file' share share' (prints file share) (prints file' share')
unfolding prints
both file file' share share' = record {
  agree = agree;
  hidden = hidden;
  either = λ same runs shares. (one_sheet_in_either_version file file' same).printed runs share ∙ ap (prints file') shares;
  directions = directions;
}
  where
    -- what is so of the two sheets is so of what is printed
    seen : (P : (sheet sheet' : List ℕ) → Type 0) → Acceptable file (runs_in file) share → Acceptable file' (runs_in file') share'
        → P (sheet_of file (runs_in file) share) (sheet_of file' (runs_in file') share') → P (prints file share) (prints file' share')
    seen P a b p = subst (λ (l : List ℕ). P l (prints file' share')) (sym (accepted_sheet file share a)) (subst (P (sheet_of file (runs_in file) share)) (sym (accepted_sheet file' share' b)) p)

    agree : Acceptable file (runs_in file) share → Acceptable file' (runs_in file') share' → SameButStations (study_of file) (study_of file') → share ≡ share'
        → Agree (study_of file) (runs_in file) (runs_in file') share (prints file share) (prints file' share')
    agree a b same shares =
        seen (Agree (study_of file) (runs_in file) (runs_in file') share) a b
        (subst (λ (h : List ℕ). Agree (study_of file) (runs_in file) (runs_in file') share (sheet_of file (runs_in file) share) (sheet_of file' (runs_in file') h)) shares
        (solvers_agree file file' (runs_in file) (runs_in file') share a (subst (Acceptable file' (runs_in file')) (sym shares) b) same))

    directions : Acceptable file (runs_in file) share → Acceptable file' (runs_in file') share' → BothFirst (study_of file) (study_of file') → ((a : Asked) → Holds a (study_of file) (study_of file') (runs_in file) (runs_in file'))
        → DistancesWithin 1 (grid_of (study_of file)) (grid_of (study_of file')) (runs_in file) (runs_in file') share share' (prints file share) (prints file' share')
    directions a b first all =
        seen (DistancesWithin 1 (grid_of (study_of file)) (grid_of (study_of file')) (runs_in file) (runs_in file') share share') a b
        (only_directions_count file file' (runs_in file) (runs_in file') share share' a b first all)

    hidden : runs_in file ≡ runs_in file' → share ≡ share' → PassesToFive file (runs_in file) → PassesToFive file' (runs_in file')
        → SameButStations (study_of file) (study_of file') → prints file share ≡ prints file' share'
    hidden runs shares p q same =
        ap₂ printed_by
        (judged_alike file file' (runs_in file) share p (subst (PassesToFive file') (sym runs) q) same ∙ ap₂ (judged file') runs shares)
        (ap (λ (G : Grid). sheet G (runs_in file) share) (same_grid same) ∙ ap₂ (sheet_of file') runs shares)

pub every_two_printed : EveryTwoPrinted
every_two_printed file file' share share' r r' p p' =
    subst (λ (l : List ℕ). BothPrinted file file' share share' l (shown r')) (shown_is (prints file share) r p)
    (subst (λ (l : List ℕ). BothPrinted file file' share share' (prints file share) l) (shown_is (prints file' share') r' p') (both file file' share share'))

-- a buffer of 65,536 bytes holds every whole file, so what does not fit it is refused as 1 either way; and one of 256 bytes every sound share file, so what does not fit it is a wrong length
same_print : (input buffer : List ℕ) (count : ℕ) (file share : List ℕ) (share_count : ℕ) → length buffer ≡ 65536 → length share ≡ 256
    → Filled input buffer count → Filled file share share_count → prints (take count buffer) (take share_count share) ≡ prints input file
same_print input buffer count file share share_count long short filled shared =
    ap₂ prints filled.front shared.front
    ∙ ap₂ (λ (m n : ℕ). prints (take m input) (take n file)) long short
    ∙ input_cut input (take 256 file)
    ∙ share_cut input file 256 (omega arith)

pub every_read_promised : EveryReadPromised
every_read_promised buffer count share share_count r long short p = record {
  read = every_print_promised (take count buffer) (take share_count share) r p;
  whole = λ input file filled shared.
      every_print_promised input file r (subst (λ (l : List ℕ). Prints l r) (same_print input buffer count file share share_count long short filled shared) p);
}
