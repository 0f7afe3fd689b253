-- What later steps know once nothing among 1 to 7, 13 and 14 stops a file.
use mathlib.Core.Path.{◌≡◌, refl, subst}
use mathlib.Core.Bool.{true}
use mathlib.Core.List.{List}
use Prim.Native.Nat.{ℕ, ◌+◌, ◌≤◌}
use native.Mathlib.Omega.{arith}
use lib.ListN.{length}
use Rattle.meaning.specs.declared.System.{System}
use Rattle.std.specs.Prelude.{Result, Ok}
use Rattle.meaning.specs.declared.Refusal.{Refusal}
use Rattle.station_table.specs.Tec.{Possible}
use Rattle.layout.specs.Readable.{readable}
use Rattle.meaning.specs.declared.Edition.{Edition}
use Rattle.meaning.specs.Editions.{HasSystem}
use Rattle.meaning.specs.Study.{Study}
use Rattle.meaning.specs.File.{file_whole, run_length, runs_whole, study_of, runs_in}
use Rattle.meaning.specs.Conditions.{InRange, SoundTables, SoundStudy}
use Rattle.meaning.specs.Grid.{grid_of}
use Rattle.meaning.specs.Outcome.{file_stage, runs_stage, rows_stage, grid_stage, tables_stage}
use Rattle.meaning.proofs.Answers.{passes_or_else, passes-unless, let_through}
use Rattle.meaning.proofs.Says.{says_eq}
use Rattle.meaning.proofs.Systems.{says_systems}
use Rattle.meaning.proofs.Frame as frame
use Rattle.meaning.proofs.Tables.{sound_pass}
use Rattle.layout.specs.Frame.{counts_of}
use Rattle.meaning.proofs.Whole.{whole_file}
use Rattle.layout.proofs.Rows.{readable_whole}
use Rattle.tables.specs.declared.Opened.{Opened}
use Rattle.tables.specs.Opens.{opened_of, Opens}
use Rattle.tables.proofs.FrameLaws.{run_length_lem}
use Rattle.tables.proofs.ReadLaws.{StudyColumns, columns_opened}

-- ---- of a file and the lengths of the runs
module _ (file : List ℕ) (long : System → ℕ) (p : tables_stage file long ≡ Ok tt) where
  parts : (file_stage file ≡ Ok tt) × (runs_stage file long ≡ Ok tt) × ((rows_stage (study_of file) ≡ Ok tt) × (grid_stage (grid_of (study_of file)) ≡ Ok tt))
  unfolding tables_stage
  parts =
      let a = (passes_or_else _ _).0 p in
      let b = (passes_or_else _ _).0 a.1 in
      (a.0, b.0, (passes_or_else _ _).0 b.1)

  pub passes_whole : file_whole file ≡ true
  unfolding file_stage
  passes_whole = (passes-unless _ _).0 parts.0

  pub passes_sound : SoundStudy (study_of file)
  passes_sound = (sound_pass (study_of file)).0 parts.2

  pub passes_runs : (system : System) → long system ≡ run_length file system
  unfolding runs_stage runs_whole
  passes_runs = (says_systems (λ s. says_eq)).0 ((passes-unless _ _).0 parts.1)

-- ---- of a file that was opened: its columns are those of its study, which is sound
pub study_columns : (file : List ℕ) (long : System → ℕ) {o : Opened} → o ≡ opened_of (readable file) → Possible o.by_type → tables_stage file long ≡ Ok tt
    → StudyColumns (study_of file) o
study_columns file long {o} e q p = subst (λ (S : Study). StudyColumns S o) (readable_whole file (passes_whole file long p)) (columns_opened e q)

pub record SoundOpened (file : List ℕ) (long : System → ℕ) (o : Opened) : Type 0 where
  pub whole : file_whole file ≡ true
  pub study : SoundStudy (study_of file)
  pub tables : SoundTables (study_of file)
  pub columns : StudyColumns (study_of file) o
  pub node_count : o.counts.nodes ≡ length (study_of file).nodes
  pub circuit_count : o.counts.circuits ≡ length (study_of file).circuits
  pub station_count : o.counts.stations ≡ length (study_of file).stations
  pub nodes_few : InRange o.counts.nodes 1 256
  pub circuits_few : o.counts.circuits ≤ 512
  pub stations_few : o.counts.stations ≤ 512
  pub lengths : (system : System) → HasSystem (study_of file).settings.edition system → long system ≡ o.counts.nodes + o.counts.circuits

pub opened_sound : {file : List ℕ} {long : System → ℕ} {r : Result Opened Refusal} {o : Opened} → Opens file long r → r ≡ Ok o
    → SoundOpened file long o
unfolding counts_of
opened_sound {file} {long} {r} {o} t q =
    let (p, e) = let_through _ _ t.judged q in
    let possible = rw q at t.possible in
    let h = passes_whole file long p in
    let w = whole_file file h in
    let l = frame.counts file (runs_in file) w in
    let s = study_columns file long e possible p in
    let c = s.counts in
    let n : o.counts.nodes ≡ length (study_of file).nodes = rw c refl in
    let m : o.counts.circuits ≡ length (study_of file).circuits = rw c refl in
    let k : o.counts.stations ≡ length (study_of file).stations = rw c refl in
    record {
      whole = h;
      study = passes_sound file long p;
      tables = (passes_sound file long p).tables;
      columns = s;
      node_count = n;
      circuit_count = m;
      station_count = k;
      nodes_few = record { least = omega (arith, l.0, w.nodes.least); most = omega (arith, l.0, w.nodes.most) };
      circuits_few = omega (arith, l.1, frame.circuits_most file (runs_in file) w);
      stations_few = omega (arith, l.2, w.stations);
      lengths = λ system in-edition. omega (arith, n, m, l.0, l.1, passes_runs file long p system, run_length_lem file system (subst (λ (e : Edition). HasSystem e system) (frame.edition_read file) in-edition));
    }
