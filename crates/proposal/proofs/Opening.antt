-- From a file that was opened to the judgement of 1 to 11 and 13 to 16: where the tables stop the case, and where the share file and the proposals decide.
use mathlib.Core.Path.{◌≡◌, refl, sym, ◌∙◌, ap}
use mathlib.Core.List.{List}
use Prim.Native.Nat.{ℕ, ◌+◌, ◌≤◌}
use native.Mathlib.Omega.{arith}
use lib.ListN.{length}
use Rattle.meaning.specs.declared.Refusal.{Refusal}
use Rattle.meaning.specs.Answers.{Judgement}
use Rattle.std.specs.Prelude.{Result, Ok, Err}
use Rattle.meaning.specs.Study.{Study, Runs}
use Rattle.meaning.specs.File.{study_of}
use Rattle.meaning.specs.Grid.{grid_of}
use Rattle.meaning.specs.declared.System.{System}
use Rattle.meaning.specs.Editions.{HasSystem}
use Rattle.meaning.specs.Systems.{proposals_stage}
use Rattle.meaning.specs.Answers.{◌or_else◌}
use Rattle.meaning.specs.Figures.{share_stage}
use Rattle.meaning.specs.Outcome.{judged}
use Rattle.meaning.proofs.Answers.{let_through, held_back}
use Rattle.tables.specs.declared.Opened.{Opened}
use Rattle.tables.specs.Opens.{Opens}
use Rattle.tables.proofs.Sound.{SoundOpened, opened_sound}
use Rattle.shares.proofs.OfOpened.{stage_of_opened}
use Rattle.flows.specs.declared.Case.{Case}
use Rattle.flows.specs.Flows.{circuits_in}
use Rattle.proposal.specs.Case.{share_in, case_of, proposals_in, AllJudgeable}
use Rattle.proposal.proofs.Told.{Told, proposals_told}
use Rattle.proposal.proofs.Sound.{circuits_in_lem, judgeable}
use Rattle.proposal.proofs.CaseOf.{reference_least, case_told}

module _ (file : List ℕ) (runs : Runs) (share : List ℕ) {x : Result Opened Refusal} (t : Opens file (λ s. length (runs s)) x) where
  pub tables_stop : {r : Refusal} → x ≡ Err r → judged file runs share ≡ Err r
  unfolding judged ◌or_else◌
  tables_stop h = rw (held_back _ _ t.judged h) refl

  module _ {o : Opened} (h : x ≡ Ok o) where
    abbrev S : Study
    S = study_of file

    s : SoundOpened file (λ s. length (runs s)) o
    s = opened_sound t h

    few : length S.nodes ≤ 256
    few = omega (arith, s.node_count, s.nodes_few.most)

    fewer : length S.circuits ≤ 512
    fewer = omega (arith, s.circuit_count, s.circuits_few)

    pub passed_reference : 1 ≤ o.settings.reference
    passed_reference = reference_least S s.study few fewer o s.columns

    told_case : Told (grid_of S) (case_of o)
    told_case = case_told S s.study few fewer o s.columns runs

    long : (system : System) → HasSystem S.settings.edition system → length (runs system) ≡ length S.nodes + length S.circuits
    long system i = omega (arith, s.node_count, s.circuit_count, s.lengths system i)

    circuits_of : (system : System) → HasSystem S.settings.edition system → circuits_in (case_of o).nodes (length (runs system)) ≡ length S.circuits
    circuits_of system i = circuits_in_lem S (case_of o) told_case s.tables few fewer (runs system) (long system i)

    edition_is : (case_of o).edition ≡ S.settings.edition
    unfolding grid_of
    edition_is = told_case.edition

    pub passed_judgeable : AllJudgeable (case_of o) runs
    passed_judgeable = λ system i. judgeable S (case_of o) told_case s.tables few fewer (runs system) (long system (rw edition_is at i))

    -- 16, and then the proposals, after the tables
    pub rest_decides : {j : Judgement} → j ≡ (share_in o share or_else proposals_in (case_of o) runs) → judged file runs share ≡ j
    unfolding judged grid_of case_of ◌or_else◌
    rest_decides f =
        rw ((let_through _ _ t.judged h).0)
        (rw (← stage_of_opened S s.study few o s.columns share, ← proposals_told (grid_of S) (case_of o) told_case s.nodes_few.most fewer runs circuits_of) (sym f))
