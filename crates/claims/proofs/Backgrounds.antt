-- 02, request 5: what edition 1 can answer, and which runs belong to an edition.
use mathlib.Core.Path.{◌≡◌, refl, sym, ◌∙◌, ap}
use mathlib.Core.Logic.{inl}
use mathlib.Core.Bool.{cond}
use Prim.Native.Nat.{ℕ, ◌≤◌}
use native.Mathlib.Omega.{arith}
use lib.Dec.{leb}
use Rattle.meaning.specs.declared.Edition.{Edition}
use Rattle.meaning.specs.declared.Edition.TheVariants.{First}
use Rattle.meaning.specs.declared.Background.TheVariants.{Peak}
use Rattle.meaning.specs.declared.System.{System}
use Rattle.meaning.specs.declared.System.TheVariants.{Base, Wider}
use Rattle.meaning.specs.declared.Refusal.{Refusal}
use Rattle.meaning.specs.declared.Refusal.TheVariants.{BadFile}
use Rattle.meaning.specs.declared.Values.{Values}
use Rattle.meaning.specs.Answers.{refusal}
use Rattle.meaning.specs.Editions.{system_number}
use Rattle.meaning.specs.Study.{runs_of, three_runs}
use Rattle.meaning.specs.File.{solutions, solution_count, run_length}
use Rattle.meaning.specs.Demands.{SystemListed, Listed}
use Rattle.meaning.specs.Backgrounds.{EditionOneAnswers, RunsOfTheEdition}
use Rattle.meaning.proofs.Systems.{first≢second}
use Rattle.claims.proofs.Accepted.{refused_exactly_when}
use Rattle.claims.proofs.Listed.{stopped_listed}

-- ---- a row of the table that edition 1 has
low_system : {e : Edition} {s : System} {system : ℕ} → e ≡ First → SystemListed e s system → system ≤ 3
low_system first SystemListed.base = omega arith
low_system first SystemListed.wider = omega arith
low_system first SystemListed.local = omega arith
low_system first (SystemListed.peak_base second) = absurd (first≢second (sym first ∙ second))
low_system first (SystemListed.peak_wider second) = absurd (first≢second (sym first ∙ second))

pub record Low (v : Values) : Type 0 where
  pub number : v.number ≤ 13
  pub system : v.system ≤ 3

low_row : {e : Edition} {n m k z : ℕ} {r : Refusal} {v : Values} → e ≡ First → Listed e n m k z r v → Low v
unfolding refusal
low_row first Listed.bad_file = record { number = omega arith; system = omega arith }
low_row first Listed.bad_setting = record { number = omega arith; system = omega arith }
low_row first (Listed.bad_node row i) = record { number = omega arith; system = omega arith }
low_row first (Listed.bad_circuit row i) = record { number = omega arith; system = omega arith }
low_row first (Listed.bad_station row i) = record { number = omega arith; system = omega arith }
low_row first (Listed.unreached row i) = record { number = omega arith; system = omega arith }
low_row first Listed.bad_total = record { number = omega arith; system = omega arith }
low_row first (Listed.bad_number s system row l i) = record { number = omega arith; system = low_system first l }
low_row first (Listed.unbalanced s system row l i) = record { number = omega arith; system = low_system first l }
low_row first (Listed.misses_too_high s system l) = record { number = omega arith; system = low_system first l }
low_row first (Listed.in_doubt b system row l i) = record { number = omega arith; system = low_system first l }
low_row first Listed.short_buffer = record { number = omega arith; system = omega arith }
low_row first Listed.no_chargeable_tec = record { number = omega arith; system = omega arith }
low_row first (Listed.unscalable second) = absurd (first≢second (sym first ∙ second))
low_row first (Listed.background_in_doubt row second i) = absurd (first≢second (sym first ∙ second))
low_row first (Listed.bad_share row second i) = absurd (first≢second (sym first ∙ second))

pub edition_one_answers : EditionOneAnswers
edition_one_answers file runs share buffer r first e =
    let low = low_row first (stopped_listed file runs share buffer r ((refused_exactly_when file runs share buffer r).exactly.0 e)) in
    record { number = low.number; system = low.system }

-- ---- peak's runs are as long as the others in edition 2, and empty in edition 1
pub runs_of_the_edition : RunsOfTheEdition
unfolding run_length system_number
runs_of_the_edition = record {
  second = λ file share buffer base wider local second.
      (refused_exactly_when file (three_runs base wider local) share buffer BadFile).untouched
      (inl (
        refl,
        λ w.
            omega (arith, w.nodes.least, w.lengths (Base Peak), ap (λ (e : Edition). cond (leb 4 (solutions e)) (solution_count file) 0) second),
      ));
  first = λ file share buffer base wider local peak_base peak_wider first some.
      (refused_exactly_when file (runs_of base wider local peak_base peak_wider) share buffer BadFile).untouched
      (inl (
        refl,
        λ w.
            omega (
              arith,
              some,
              w.lengths (Base Peak),
              w.lengths (Wider Peak),
              ap (λ (e : Edition). cond (leb 4 (solutions e)) (solution_count file) 0) first,
              ap (λ (e : Edition). cond (leb 5 (solutions e)) (solution_count file) 0) first,
            ),
      ));
}
