-- Demand 3, its last part: cases that pass 1 to 5 and differ in their stations alone get one answer, refused or not.
use mathlib.Core.Path.{◌≡◌, refl, sym, ◌∙◌, ap, ap₂}
use mathlib.Core.List.{List}
use mathlib.Core.Bool.{Bool, true, false, cond}
use Prim.Native.Nat.{ℕ}
use lib.Dec.{leb}
use lib.ListN.{length}
use Rattle.meaning.specs.Study.{Runs}
use Rattle.meaning.specs.File.{study_of}
use Rattle.meaning.specs.Answers.{Judgement}
use Rattle.std.specs.Prelude.{Ok, Err}
use Rattle.meaning.specs.declared.Refusal.TheVariants.{ShortBuffer}
use Rattle.meaning.specs.Answers.{Answer}
use Rattle.meaning.specs.Answers.{◌or_else◌, unless}
use Rattle.meaning.specs.Grid.{Grid, grid_of}
use Rattle.meaning.specs.Systems.{proposals_stage}
use Rattle.meaning.specs.Figures.{share_stage}
use Rattle.meaning.specs.Sheet.{sheet}
use Rattle.meaning.specs.Outcome.{grid_stage, tables_stage, judged, sheet_of, refused, written, buffer_stage, answered_by, answer_of, settled_by, settle}
use Rattle.meaning.specs.Demands.{SameButStations, PassesToFive, StationsHidden, JudgeIsWrite}
use Rattle.meaning.proofs.Says.{says_le}
use Rattle.meaning.proofs.Answers.{or_else_passes, passes_or_else}
use Rattle.meaning.proofs.Tables.{judge_rows}
use Rattle.meaning.proofs.Whole.{judge_file}
use Rattle.claims.proofs.Same.{same_grid}

-- what is answered after 1 to 5 is a function of the grid, the runs, the share file and the buffer's length
abbrev pub after_five : Grid → Runs → (share : List ℕ) → Judgement
after_five G runs share = grid_stage G or_else share_stage G share or_else proposals_stage G runs

pub judged_after : (file : List ℕ) (runs : Runs) (share : List ℕ) → PassesToFive file runs → judged file runs share ≡ after_five (grid_of (study_of file)) runs share
unfolding judged tables_stage
judged_after file runs share p =
    let w = (passes_or_else _ _).0 ((judge_file file runs).passes.1 (p.0, tt)) in
    ap (λ (a : Judgement). a or_else share_stage (grid_of (study_of file)) share or_else proposals_stage (grid_of (study_of file)) runs)
    (or_else_passes _ w.0 ∙ or_else_passes _ w.1 ∙ or_else_passes _ ((judge_rows (study_of file)).passes.1 p.1))

-- so 1 to 11 and 13 to 16 judge both cases alike
pub judged_alike : (file file' : List ℕ) (runs : Runs) (share : List ℕ) → PassesToFive file runs → PassesToFive file' runs
    → SameButStations (study_of file) (study_of file')
    → judged file runs share ≡ judged file' runs share
judged_alike file file' runs share p p' same =
    judged_after file runs share p ∙ ap (λ (G : Grid). after_five G runs share) (same_grid same) ∙ sym (judged_after file' runs share p')

pub answered : Judgement → (sheet buffer : ℕ) → Answer
answered (Ok _) sheet buffer = cond (leb sheet buffer) (Ok sheet) (Err ShortBuffer)
answered (Err r) sheet buffer = Err r

pub settled_answer : (file : List ℕ) (runs : Runs) (share buffer : List ℕ)
    → (settle file runs share buffer).answer ≡ answered (judged file runs share) (length (sheet_of file runs share)) (length buffer)
unfolding settle settled_by buffer_stage unless ◌or_else◌ refused written answered
settled_answer file runs share buffer = go (judged file runs share) (leb (length (sheet_of file runs share)) (length buffer)) refl
  where
    go : (j : Judgement) (l : Bool) → leb (length (sheet_of file runs share)) (length buffer) ≡ l
        → (settled_by (j or_else unless l ShortBuffer) (sheet_of file runs share) buffer).answer
        ≡ answered j (length (sheet_of file runs share)) (length buffer)
    go (Ok _) true e = rw e refl
    go (Ok _) false e = rw e refl
    go (Err r) l e = refl

-- with room enough, the sheet's length or the refusal
pub judge_is_write : JudgeIsWrite
unfolding answer_of answered_by answered
judge_is_write file runs share buffer h = settled_answer file runs share buffer ∙ go (judged file runs share)
  where
    go : (j : Judgement) → answered j (length (sheet_of file runs share)) (length buffer) ≡ answered_by j (sheet_of file runs share)
    go (Ok _) = rw (says_le.1 h) refl
    go (Err r) = refl

pub stations_hidden : StationsHidden
stations_hidden file file' runs share buffer buffer' p p' same long =
    settled_answer file runs share buffer
    ∙ ap (λ (a : Judgement). answered a (length (sheet_of file runs share)) (length buffer)) (judged_alike file file' runs share p p' same)
    ∙ ap₂ (λ (G : Grid) (n : ℕ). answered (judged file' runs share) (length (sheet G runs share)) n) (same_grid same) long
    ∙ sym (settled_answer file' runs share buffer')
