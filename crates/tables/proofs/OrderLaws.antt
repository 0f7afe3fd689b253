-- Judging the frame, then the rows, then the grid is judging in 01's order.
use mathlib.Core.Path.{◌≡◌, refl, sym, ◌∙◌}
use mathlib.Core.Bool.{Bool, true, false}
use mathlib.Core.List.{List}
use Prim.Native.Nat.{ℕ}
use Rattle.meaning.specs.declared.System.{System}
use Rattle.std.specs.Prelude.{Ok, Err}
use Rattle.meaning.specs.declared.Refusal.{Refusal}
use Rattle.meaning.specs.Answers.{Judgement, ◌or_else◌, unless}
use Rattle.meaning.specs.Study.{Study}
use Rattle.meaning.specs.File.{file_whole, study_of}
use Rattle.meaning.specs.Grid.{grid_of}
use Rattle.meaning.specs.Outcome.{file_stage, runs_stage, rows_stage, grid_stage, tables_stage}
use Rattle.meaning.proofs.Answers.{or_else_assoc, or_else_stops, or_else_passes, passes_or_else}
use Rattle.layout.specs.Readable.{readable}
use Rattle.layout.proofs.Rows.{readable_whole}
use Rattle.tables.specs.Order.{frame_stage, rows_after, then_nodes, then_circuits}

-- where 1 to 5 pass, so do 1 to 3, after which circuits are read, and 1 to 4, after which stations are
pub rows_passed : (frame : Judgement) (file : List ℕ) → frame or_else rows_after (readable file) ≡ Ok tt → (then_nodes frame file ≡ Ok tt) × (then_circuits frame file ≡ Ok tt)
unfolding rows_after
rows_passed frame file p =
    let f = (passes_or_else _ _).0 p in
    let n = (passes_or_else _ _).0 f.1 in
    let c = (passes_or_else _ _).0 n.1 in
    let nodes = (passes_or_else _ _).1 (f.0, n.0) in
    (nodes, (passes_or_else _ _).1 (nodes, c.0))

module _ (file : List ℕ) (long : System → ℕ) where
  -- 1 to 7, 13 and 14 in their order: a file that is not whole is stopped before its study matters
  later : Study → Judgement
  later S = rows_stage S or_else grid_stage (grid_of S)

  regrouped : frame_stage file long or_else rows_after (readable file) or_else grid_stage (grid_of (readable file)) ≡ file_stage file or_else runs_stage file long or_else later (readable file)
  unfolding frame_stage rows_stage rows_after later
  regrouped = simp (or_else_assoc)

  of_study : (b : Bool) → file_whole file ≡ b
      → file_stage file or_else runs_stage file long or_else later (readable file) ≡ file_stage file or_else runs_stage file long or_else later (study_of file)
  unfolding file_stage unless ◌or_else◌
  of_study true e = rw (readable_whole file e) refl
  of_study false e = rw e refl

  pub chain_is : frame_stage file long or_else rows_after (readable file) or_else grid_stage (grid_of (readable file)) ≡ tables_stage file long
  unfolding tables_stage later
  chain_is = regrouped ∙ of_study (file_whole file) refl

  -- what is left to decide once the frame and the rows were judged
  module _ {x : Judgement} (e : x ≡ (frame_stage file long or_else rows_after (readable file))) where
    judged : (x or_else grid_stage (grid_of (readable file))) ≡ tables_stage file long
    judged = rw (e, or_else_assoc (frame_stage file long) (rows_after (readable file)) (grid_stage (grid_of (readable file)))) chain_is

    pub rows_stop : {r : Refusal} → x ≡ Err r → tables_stage file long ≡ Err r
    rows_stop h = sym judged ∙ or_else_stops _ h ∙ h

    pub rows_pass : x ≡ Ok tt → tables_stage file long ≡ grid_stage (grid_of (readable file))
    rows_pass h = sym judged ∙ or_else_passes _ h

  -- what stops the frame stops the file
  pub frame_stops : {r : Refusal} → frame_stage file long ≡ Err r → tables_stage file long ≡ Err r
  frame_stops e = rows_stop refl (or_else_stops _ e ∙ e)
