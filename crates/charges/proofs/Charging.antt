-- From a case that was opened to its figures: none where it is stopped, else those of its grid.
use mathlib.Core.Path.{◌≡◌, refl, sym, ◌∙◌, ap}
use mathlib.Core.List.{List}
use Prim.Native.Nat.{ℕ}
use lib.ListN.{length}
use Rattle.std.specs.Prelude.{Result, Ok, Err}
use Rattle.meaning.specs.declared.Background.TheVariants.{YearRound, Peak}
use Rattle.meaning.specs.declared.System.TheVariants.{Wider, Local}
use Rattle.meaning.specs.declared.Kw.{Kw}
use Rattle.meaning.specs.declared.Figures.{Figures}
use Rattle.meaning.specs.declared.Refusal.{Refusal}
use Rattle.meaning.specs.Study.{Runs}
use Rattle.meaning.specs.Answers.{Judgement}
use Rattle.meaning.specs.Outcome.{judged}
use Rattle.meaning.proofs.Answers.{let_through, held_back, yields_stops, yields_passes, or_else_stops}
use Rattle.boundaries.specs.declared.Shares.{Shares}
use Rattle.tables.specs.declared.Opened.{Opened}
use Rattle.tables.specs.Order.{frame_stage}
use Rattle.tables.proofs.OrderLaws.{frame_stops}
use Rattle.proposal.specs.Judges.{Judges}
use Rattle.plants.specs.declared.Counted.TheVariants.{All, Paying}
use Rattle.station_table.specs.Tec.{by_node}
use Rattle.tariffs.specs.Case.{figures_over}
use Rattle.charges.specs.Charged.{figures_in, charged_of}
use Rattle.charges.proofs.OfFile.{figures_of_file}

module _ (file : List ℕ) (runs : Runs) (share : List ℕ) {x : Result Opened Refusal} (j : Judges file runs share x) where
  pub stopped : {r : Refusal} → x ≡ Err r → ◌≡◌ {A = Result Figures Refusal} (Err r) (charged_of file runs share)
  unfolding charged_of
  stopped h = yields_stops _ (held_back _ _ j.judged h)

  pub charged : {o : Opened} {f : Figures} → x ≡ Ok o → f ≡ figures_in o runs share → ◌≡◌ {A = Result Figures Refusal} (Ok f) (charged_of file runs share)
  unfolding charged_of
  charged {o} h ef =
      let passes = (let_through _ _ j.judged h).0 in
      ap Ok (ef ∙ figures_of_file file runs share passes o j h) ∙ yields_passes _ passes

-- a case that its frame stops
pub frame_stopped : (file : List ℕ) (runs : Runs) (share : List ℕ) {r : Refusal} {j : Judgement} → j ≡ frame_stage file (λ s. length (runs s)) → j ≡ Err r → ◌≡◌ {A = Result Figures Refusal} (Err r) (charged_of file runs share)
unfolding charged_of judged
frame_stopped file runs share e h = let t = frame_stops file _ (sym e ∙ h) in yields_stops _ (or_else_stops _ t ∙ t)
