-- The two stages of refusal 1 judge whether the file is whole.
use mathlib.Core.Path.{◌≡◌}
use mathlib.Core.List.{List, [], ◌∷◌}
use mathlib.Core.Bool.{Bool, true, ◌&&◌}
use Prim.Native.Nat.{ℕ, ◌+◌, ◌-◌, ◌≤◌}
use native.Mathlib.Omega.{arith}
use lib.ListN.{length}
use Rattle.meaning.specs.Study.{Runs}
use Rattle.meaning.specs.File.{u32, edition_at, solutions, sections, version_of, known_edition, counted, chained, file_whole, run_length, runs_whole, runs_in}
use Rattle.meaning.specs.declared.System.{System}
use Rattle.meaning.specs.declared.Refusal.TheVariants.{BadFile}
use Rattle.meaning.specs.Answers.{◌or_else◌}
use Rattle.meaning.specs.Outcome.{file_stage, runs_stage}
use Rattle.meaning.specs.Conditions.{KnownEdition, WholeFile}
use Rattle.meaning.specs.Refusals.{whole}
use Rattle.meaning.proofs.Says.{Says, says_as, ◌also◌, ◌either◌, says_true, says_le, says_eq, says_between, says_all}
use Rattle.meaning.proofs.Systems.{says_systems}
use Rattle.meaning.proofs.Frame.{sections_are}
use Rattle.meaning.proofs.Rows.{length_rows}
use Rattle.meaning.proofs.Answers.{unless-both}
use Rattle.meaning.proofs.Order.{Judges, judges_whole}

-- both tests of 1 together
abbrev whole_test : List ℕ → Runs → Bool
whole_test file runs = file_whole file && runs_whole file (λ s. length (runs s))

says_known : (version edition : ℕ) → Says (known_edition version edition) (KnownEdition version edition)
unfolding known_edition
says_known version edition = (says_between also says_eq) either (says_eq also says_eq)

says_whole : (file : List ℕ) (runs : Runs) → Says (whole_test file runs) (WholeFile file runs)
unfolding file_whole runs_whole counted chained
says_whole file runs =
    let e = edition_at file in
    says_as
    (says_le also says_known (version_of file) (u32 file 52) also says_eq
    also (says_eq also says_between also says_le also says_le also says_all (solutions e) (λ k. says_eq))
    also (says_all (sections e) (λ k. says_eq) also says_eq)
    also says_systems (λ s. says_eq)) (
      λ t. record {
        long = t.0.0.0.0.0;
        edition = t.0.0.0.0.1;
        file_length = t.0.0.0.1;
        one_settings = t.0.0.1.0.0.0.0;
        nodes = t.0.0.1.0.0.0.1;
        circuits = t.0.0.1.0.0.1;
        stations = t.0.0.1.0.1;
        solutions = λ s l m. rw (four s l) at (t.0.0.1.1 (s - 4) (omega (arith, l, m, sections_are (edition_at file))));
        chain = t.0.1.0;
        end = t.0.1.1;
        lengths = t.1;
      },
      λ w. (
        (
          (
            ((w.long, w.edition), w.file_length),
            ((((w.one_settings, w.nodes), w.circuits), w.stations), λ k h. w.solutions (4 + k) (omega arith) (omega (arith, h, sections_are (edition_at file)))),
          ),
          (w.chain, w.end),
        ),
        w.lengths,
      ),
    )
  where
    four : (s : ℕ) → 4 ≤ s → 4 + (s - 4) ≡ s
    four s h = omega arith

whole_with : (file : List ℕ) (runs : Runs) → file_whole file ≡ true → ((s : System) → length (runs s) ≡ run_length file s) → WholeFile file runs
unfolding runs_whole
whole_with file runs e h = (says_whole file runs).0 ((says_true _ also says_systems (λ s. says_eq)).1 (e, h))

-- a file's own solutions have the lengths that it counts, so of the file alone it is the first test
pub own_lengths : (file : List ℕ) (s : System) → length (runs_in file s) ≡ run_length file s
unfolding runs_in
own_lengths file s = length_rows (run_length file s) _

pub whole_file : (file : List ℕ) → file_whole file ≡ true → WholeFile file (runs_in file)
whole_file file h = whole_with file (runs_in file) h (own_lengths file)

pub whole_true : (file : List ℕ) (runs : Runs) → WholeFile file runs → file_whole file ≡ true
whole_true file runs w = ((says_true _ also says_true _).0 ((says_whole file runs).1 w)).0

pub judge_file : (file : List ℕ) (runs : Runs)
    → Judges (file_stage file or_else runs_stage file (λ s. length (runs s))) (whole (WholeFile file runs) BadFile ∷ [])
unfolding file_stage runs_stage
judge_file file runs = rw (unless-both (file_whole file) (runs_whole file (λ s. length (runs s))) BadFile) (judges_whole BadFile (says_whole file runs))
