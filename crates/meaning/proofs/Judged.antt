-- The stages of 01, one after the other, judge the conditions of 01's order.
use mathlib.Core.Path.{◌≡◌, subst}
use mathlib.Core.Logic.{◌↔◌}
use mathlib.Core.List.{List, [], ◌∷◌, ◌++◌}
use Prim.Native.Nat.{ℕ, ◌<◌}
use lib.ListN.{length}
use Rattle.meaning.specs.Study.{Study, Runs}
use Rattle.meaning.specs.File.{study_of}
use Rattle.meaning.specs.declared.Refusal.TheVariants.{BadFile, ShortBuffer}
use Rattle.meaning.specs.Answers.{Judgement}
use Rattle.std.specs.Prelude.{Ok}
use Rattle.meaning.specs.Answers.{◌or_else◌}
use Rattle.meaning.specs.Grid.{grid_of}
use Rattle.meaning.specs.Network.{network_of}
use Rattle.meaning.specs.Outcome.{file_stage, runs_stage, rows_stage, grid_stage, tables_stage, judged, sheet_of, buffer_stage}
use Rattle.meaning.specs.Conditions.{WholeFile, Acceptable}
use Rattle.meaning.specs.Refusals.{whole, AllMet, rows_order, grid_order, share_order, proposals_order, case_order, order}
use Rattle.meaning.proofs.Says.{says_le}
use Rattle.meaning.proofs.Answers.{or_else_assoc}
use Rattle.meaning.proofs.Order.{Judges, both_met, ◌before◌, judges_whole}
use Rattle.meaning.proofs.Tables.{Rowwise, rowwise, rowwise_met, judge_rows, judge_grid, sound_met, placed}
use Rattle.meaning.proofs.Whole.{judge_file}
use Rattle.meaning.proofs.Shared.{judge_share, share_met}
use Rattle.meaning.proofs.Proposals.{judge_proposals, solved_met}

-- ---- 1 to 7 and 13
module _ (file : List ℕ) (runs : Runs) where
  abbrev S : Study
  S = study_of file

  judge_tables : Judges (tables_stage file (λ s. length (runs s)))
      ((whole (WholeFile file runs) BadFile ∷ []) ++ (rows_order S ++ grid_order (grid_of S)))
  unfolding tables_stage
  judge_tables =
      subst (λ (j : Judgement). Judges j ((whole (WholeFile file runs) BadFile ∷ []) ++ (rows_order S ++ grid_order (grid_of S))))
      (or_else_assoc (file_stage file) (runs_stage file (λ s. length (runs s))) (rows_stage S or_else grid_stage (grid_of S)))
      (judge_file file runs before λ _. judge_rows S before λ m. judge_grid S ((rowwise_met S).0 m))

  -- the reference is a node, where 2 is met
  reference_row : Rowwise S → (network_of (grid_of S)).reference < (network_of (grid_of S)).nodes
  reference_row r = (placed S r).reference

  -- ---- 1 to 11 and 13 to 16, and 12
  module _ (share : List ℕ) where
    pub judge_case : Judges (judged file runs share) (case_order file runs share)
    unfolding judged
    judge_case =
        judge_tables
        before λ m. judge_share (grid_of S) share
        before λ _. judge_proposals (grid_of S) runs (reference_row ((rowwise_met S).0 ((both_met (rows_order S) (grid_order (grid_of S))).0 m.1).0))

    pub judge_all : (buffer : List ℕ) → Judges (judged file runs share or_else buffer_stage (sheet_of file runs share) buffer) (order file runs share buffer)
    unfolding buffer_stage
    judge_all buffer = judge_case before λ _. judges_whole ShortBuffer says_le

    -- ---- all conditions of a case together
    pub case_met : AllMet (case_order file runs share) ↔ Acceptable file runs share
    unfolding grid_of
    case_met =
        let proposals = proposals_order (grid_of S) runs in
        let tables = both_met (rows_order S) (grid_order (grid_of S) ++ (share_order (grid_of S) share ++ proposals)) in
        let rest = both_met (grid_order (grid_of S)) (share_order (grid_of S) share ++ proposals) in
        let last = both_met (share_order (grid_of S) share) proposals in
        let shares = share_met (grid_of S) share in (
          λ m.
              let t = tables.0 m.1 in
              let g = rest.0 t.1 in
              let h = last.0 g.1 in
              let s = (sound_met S).0 (t.0, g.0) in
              let p = (solved_met (grid_of S) runs (reference_row (rowwise S s.tables))).0 h.1 in
              record { whole = m.0; study = s; shared = shares.0 h.0; solved = p.each; directions = p.clear },
          λ a.
              let t = (sound_met S).1 a.study in
              let p = (solved_met (grid_of S) runs (reference_row (rowwise S a.study.tables))).1 (record { each = a.solved; clear = a.directions }) in
              (a.whole, tables.1 (t.0, rest.1 (t.1, last.1 (shares.1 a.shared, p)))),
        )

    -- nothing stops a case exactly when it is acceptable
    pub judged_pass : (judged file runs share ≡ Ok tt) ↔ Acceptable file runs share
    judged_pass = (λ e. case_met.0 (judge_case.passes.0 e), λ a. judge_case.passes.1 (case_met.1 a))
