-- 02, request 3: whole files that say the same are one case, whatever their versions; what version 1 can say; and the length of a circuit with a factor of its own.
use mathlib.Core.Path.{◌≡◌, refl, sym, ◌∙◌, ap, ap₂}
use mathlib.Core.Bool.{cond}
use mathlib.Core.List.{List}
use Prim.Native.Nat.{ℕ, suc, ◌+◌, ◌*◌, ◌-◌, ◌<◌}
use native.Mathlib.Decide.{dec_lt}
use native.Mathlib.Omega.{arith}
use borrow.Author.Tests.{ne_eqb}
use lib.Dec.{eqb, leb}
use lib.ListN.{length}
use Rattle.meaning.specs.Rows.{every}
use Rattle.meaning.specs.declared.Edition.{Edition}
use Rattle.meaning.specs.declared.Settings.{Settings}
use Rattle.meaning.specs.declared.System.{System}
use Rattle.meaning.specs.Editions.{system_number, all_systems}
use Rattle.meaning.specs.declared.Refusal.TheVariants.{BadFile}
use Rattle.meaning.specs.Answers.{Judgement}
use Rattle.std.specs.Prelude.{Ok}
use Rattle.meaning.specs.Study.{Circuit, Study, Runs, circuit, no_circuit}
use Rattle.meaning.specs.File.{u32, edition_at, solutions, circuit_size, record_size, version_of, section_start, section, section_count, solution_count, row_at, factor_at, circuit_at, run_length, runs_whole, study_of, runs_in}
use Rattle.meaning.specs.Answers.{◌or_else◌, unless}
use Rattle.meaning.specs.Grid.{grid_of}
use Rattle.meaning.specs.Direction.{own_or, expanded_length}
use Rattle.meaning.specs.Systems.{proposals_stage}
use Rattle.meaning.specs.Figures.{share_stage}
use Rattle.meaning.specs.Sheet.{sheet}
use Rattle.meaning.specs.Outcome.{file_stage, runs_stage, rows_stage, grid_stage, tables_stage, judged, sheet_of, buffer_stage, answered_by, answer_of, settled_by, settle, printed_by, prints}
use Rattle.meaning.specs.Conditions.{InRange, WholeFile}
use Rattle.meaning.specs.Versions.{SayTheSame, OneCase, OneSheetInEitherVersion, VersionOneByVoltage, FactorLast, NewVoltagesInVersionTwo, OwnFactorForBothLengths, NoFactorNoChange}
use Rattle.meaning.proofs.Rows.{length_rows, rows_at, rows_past}
use Rattle.meaning.proofs.Answers.{passes_or_else, or_else_passes}
use Rattle.meaning.proofs.Whole.{judge_file}
use Rattle.meaning.proofs.Frame.{edition_read, known_version, counts}

-- ---- a whole file is judged by what it says, and by the lengths of the runs

module _ (file file' : List ℕ) (same : SayTheSame file file') where
  same_study : study_of file ≡ study_of file'
  same_study = λ i. record { settings = same.settings i; nodes = same.nodes i; circuits = same.circuits i; stations = same.stations i }

  passes : (f : List ℕ) → WholeFile f (runs_in f) → file_stage f ≡ Ok tt
  passes f w = ((passes_or_else _ _).0 ((judge_file f (runs_in f)).passes.1 (w, tt))).0

  -- "count is nodes plus circuits": the solutions of both files have as many numbers
  numbers : (f : List ℕ) → WholeFile f (runs_in f) → solution_count f ≡ length (study_of f).nodes + length (study_of f).circuits
  numbers f w = let c = counts f (runs_in f) w in omega (arith, c.0, c.1)

  same_count : solution_count file ≡ solution_count file'
  same_count = numbers file same.whole ∙ ap (λ (S : Study). length S.nodes + length S.circuits) same_study ∙ sym (numbers file' same.other_whole)

  same_edition : edition_at file ≡ edition_at file'
  same_edition = sym (edition_read file) ∙ ap (λ (s : Settings). s.edition) same.settings ∙ edition_read file'

  same_runs : (long : System → ℕ) → runs_stage file long ≡ runs_stage file' long
  unfolding runs_stage runs_whole run_length
  same_runs long =
      ap₂ (λ (e : Edition) (n : ℕ). unless (every (λ s. eqb (long s) (cond (leb (system_number s) (solutions e)) n 0)) all_systems) BadFile) same_edition same_count

  abbrev judged_by : (stage : Judgement) → Study → Runs → (share : List ℕ) → Judgement
  judged_by stage S runs share = (stage or_else rows_stage S or_else grid_stage (grid_of S)) or_else share_stage (grid_of S) share or_else proposals_stage (grid_of S) runs

  -- what the file itself asks has passed
  judged_whole : (f : List ℕ) (runs : Runs) (share : List ℕ) → WholeFile f (runs_in f)
      → judged f runs share ≡ judged_by (runs_stage f (λ s. length (runs s))) (study_of f) runs share
  unfolding judged tables_stage
  judged_whole f runs share w = ap (λ (a : Judgement). a or_else share_stage (grid_of (study_of f)) share or_else proposals_stage (grid_of (study_of f)) runs) (or_else_passes _ (passes f w))

  judged_alike : (runs : Runs) (share : List ℕ) → judged file runs share ≡ judged file' runs share
  judged_alike runs share =
      judged_whole file runs share same.whole
      ∙ ap₂ (λ (a : Judgement) (S : Study). judged_by a S runs share) (same_runs (λ s. length (runs s))) same_study
      ∙ sym (judged_whole file' runs share same.other_whole)

  same_sheet : (runs : Runs) (share : List ℕ) → sheet_of file runs share ≡ sheet_of file' runs share
  same_sheet runs share = ap (λ (S : Study). sheet (grid_of S) runs share) same_study

  one_case : OneCase file file'
  unfolding settle answer_of prints
  one_case = record {
    settled = λ runs share buffer. ap₂ (λ (j : Judgement) (s : List ℕ). settled_by (j or_else buffer_stage s buffer) s buffer) (judged_alike runs share) (same_sheet runs share);
    judged = λ runs share. ap₂ answered_by (judged_alike runs share) (same_sheet runs share);
    printed = λ e share. ap₂ printed_by (judged_alike (runs_in file) share ∙ ap (λ (r : Runs). judged file' r share) e) (same_sheet (runs_in file) share ∙ ap (λ (r : Runs). sheet_of file' r share) e);
  }

pub one_sheet_in_either_version : OneSheetInEitherVersion
one_sheet_in_either_version = one_case

-- ---- version 1
pub version_one_by_voltage : VersionOneByVoltage
unfolding study_of section record_size circuit_size circuit_at factor_at
version_one_by_voltage file e c = go (dec_lt c (section_count file 2))
  where
    row : ℕ → Circuit
    row i = circuit_at file (circuit_size (version_of file)) (row_at (section file 2) i)

    go : Dec (c < section_count file 2) → (circuit (study_of file).circuits c).factor ≡ 0
    go (yes h) = ap (λ (r : Circuit). r.factor) (rows_at no_circuit (section_count file 2) row c h) ∙ rw e refl
    go (no h) = ap (λ (r : Circuit). r.factor) (rows_past no_circuit (section_count file 2) row c (omega arith))

pub factor_last : FactorLast
unfolding study_of section record_size circuit_size circuit_at factor_at
factor_last file e c h =
    let k : c < section_count file 2 = rw (length_rows (section_count file 2) _) at h in
    let last : section_start file 2 + 48 * c + 44 ≡ section_start file 2 + 48 * suc c - 4 = omega arith in
    ap (λ (r : Circuit). r.factor) (rows_at no_circuit (section_count file 2) (λ i. circuit_at file (circuit_size (version_of file)) (row_at (section file 2) i)) c k) ∙ rw e (ap (u32 file) last)

pub new_voltages_in_version_two : NewVoltagesInVersionTwo
new_voltages_in_version_two file runs share a c h n = go (dec_lt (version_of file) 2)
  where
    version : InRange (version_of file) 1 2
    version = known_version _ _ a.whole.edition

    go : Dec (version_of file < 2) → version_of file ≡ 2
    go (yes l) = absurd ((a.study.tables.circuits c h).own_factor n (version_one_by_voltage file (omega (arith, version.least)) c))
    go (no l) = omega (arith, version.most)

-- ---- lengths
pub own_factor_for_both_lengths : OwnFactorForBothLengths
unfolding expanded_length own_or
own_factor_for_both_lengths s c n = rw (ne_eqb c.factor 0 n) (omega arith)

pub no_factor_no_change : NoFactorNoChange
unfolding expanded_length own_or
no_factor_no_change s c e = rw e refl
