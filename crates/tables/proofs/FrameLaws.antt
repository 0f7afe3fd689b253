-- 1 and 2: a file that is not whole, runs of another length, and the settings of a whole file.
use mathlib.Core.Path.{◌≡◌, refl, ◌∙◌, ap₂}
use mathlib.Core.Bool.{Bool, true, false, cond, ◌&&◌}
use mathlib.Core.List.{List}
use Prim.Native.Nat.{ℕ, ◌+◌, ◌≤◌}
use native.Mathlib.Omega.{arith}
use lib.Dec.{eqb, leb}
use lib.ListN.{length}
use Rattle.meaning.specs.declared.Solutions.{Solutions}
use Rattle.meaning.specs.Study.{lent}
use Rattle.meaning.proofs.Systems.{by_system_lem}
use Rattle.meaning.specs.declared.Edition.{Edition}
use Rattle.meaning.specs.declared.Edition.TheVariants.{First, Second}
use Rattle.meaning.specs.declared.Background.TheVariants.{YearRound, Peak}
use Rattle.meaning.specs.declared.System.{System}
use Rattle.meaning.specs.declared.System.TheVariants.{Base, Wider, Local}
use Rattle.meaning.specs.declared.Refusal.TheVariants.{BadFile, BadSetting}
use Rattle.meaning.specs.Answers.{Judgement}
use Rattle.std.specs.Prelude.{Err}
use Rattle.meaning.specs.declared.Settings.{Settings}
use Rattle.meaning.specs.Rows.{every}
use Rattle.meaning.specs.Editions.{by_edition, by_system, system_number, all_systems, HasSystem}
use Rattle.meaning.specs.Answers.{◌or_else◌, unless}
use Rattle.meaning.specs.File.{edition_at, solutions, solution_count, file_whole, run_length, runs_whole, runs_in}
use Rattle.meaning.specs.Tables.{sound_settings, settings_stage}
use Rattle.meaning.specs.Outcome.{file_stage, runs_stage}
use Rattle.meaning.proofs.Frame as frame
use Rattle.layout.specs.declared.RowCounts.{RowCounts}
use Rattle.layout.specs.Readable.{readable}
use Rattle.layout.specs.Frame.{counts_of}
use Rattle.meaning.proofs.Whole.{whole_file}
use Rattle.layout.proofs.Rows.{readable_whole, counts_are, few}
use Rattle.tables.specs.declared.Lengths.{Lengths}
use Rattle.tables.specs.Order.{frame_stage, lengths_of, long_of}

module _ (file : List ℕ) (long : System → ℕ) where
  pub file_stops : file_whole file ≡ false → Err BadFile ≡ frame_stage file long
  unfolding frame_stage file_stage unless ◌or_else◌
  file_stops e = rw e refl

  pub runs_stop : file_whole file ≡ true → runs_whole file long ≡ false → Err BadFile ≡ frame_stage file long
  unfolding frame_stage file_stage runs_stage unless ◌or_else◌
  runs_stop e f = rw (e, f) refl

  pub settings_decide : {x : Judgement} → file_whole file ≡ true → runs_whole file long ≡ true → x ≡ settings_stage (readable file) → x ≡ frame_stage file long
  unfolding frame_stage file_stage runs_stage unless ◌or_else◌
  settings_decide e f g = g ∙ rw (e, f) refl

module _ (file : List ℕ) {r : RowCounts} (t : r ≡ counts_of (readable file)) where
  pub few_rows : r.nodes + r.circuits ≤ 768
  few_rows = let f = few file t in omega (arith, f.nodes_low, f.circuits_low)

  -- a setting out of its range
  pub setting_is : {s : Settings} {x : Judgement} → s ≡ (readable file).settings → x ≡ unless (sound_settings r.nodes s) BadSetting → x ≡ settings_stage (readable file)
  unfolding settings_stage
  setting_is e f = rw (e, (counts_are file t).0) at f

  -- "count is nodes plus circuits": of a whole file, and so of the runs of its edition; peak's are empty in edition 1
  pub runs_are : file_whole file ≡ true → {s : Settings} → s ≡ (readable file).settings → (base wider local peak_base peak_wider : ℕ)
      → let k = r.nodes + r.circuits in
      let p = by_edition 0 k s.edition in
      ((eqb base k && eqb wider k && eqb local k) && (eqb peak_base p && eqb peak_wider p)) ≡ runs_whole file (by_system base wider local peak_base peak_wider)
  unfolding runs_whole run_length system_number every
  runs_are whole {s} q base wider local peak_base peak_wider =
      let l = frame.counts file (runs_in file) (whole_file file whole) in
      let n = rw (readable_whole file whole) at (counts_are file t) in
      let k : r.nodes + r.circuits ≡ solution_count file = omega (arith, l.0, l.1, n.0, n.1) in
      let e : s.edition ≡ edition_at file = rw (q, readable_whole file whole) (frame.edition_read file) in
      rw (k, e) (go (edition_at file))
    where
      five : (a b c d e : Bool) → ((a && b && c) && (d && e)) ≡ (a && (b && (c && (d && (e && true)))))
      five true true true true true = refl
      five true true true true false = refl
      five true true true false e = refl
      five true true false d e = refl
      five true false c d e = refl
      five false b c d e = refl

      go : (e : Edition)
          → ((eqb base (solution_count file) && eqb wider (solution_count file) && eqb local (solution_count file))
          && (eqb peak_base (by_edition 0 (solution_count file) e) && eqb peak_wider (by_edition 0 (solution_count file) e)))
          ≡ every (λ x. eqb (by_system base wider local peak_base peak_wider x) (cond (leb (system_number x) (solutions e)) (solution_count file) 0)) all_systems
      go First = five (eqb base (solution_count file)) (eqb wider (solution_count file)) (eqb local (solution_count file)) (eqb peak_base 0) (eqb peak_wider 0)
      go Second =
          five (eqb base (solution_count file)) (eqb wider (solution_count file)) (eqb local (solution_count file)) (eqb peak_base (solution_count file))
          (eqb peak_wider (solution_count file))

  -- the same of the lengths that code is told
  pub runs_asked : file_whole file ≡ true → {s : Settings} → s ≡ (readable file).settings → (l : Lengths) {peak : ℕ} {y p : Bool}
      → let k = r.nodes + r.circuits in
      y ≡ (eqb l.base k && eqb l.wider k && eqb l.local k)
      → peak ≡ by_edition 0 k s.edition → p ≡ (eqb l.peak_base peak && eqb l.peak_wider peak)
      → (y && p) ≡ runs_whole file (long_of l)
  runs_asked whole q l ey ek ep = ap₂ ◌&&◌ ey (rw ek at ep) ∙ runs_are whole q l.base l.wider l.local l.peak_base l.peak_wider

-- the lengths of the runs that are lent, by system
pub long_lent : (l : Solutions) → long_of (lengths_of l) ≡ (λ s. length (lent l s))
unfolding lengths_of
long_lent l = by_system_lem length l.base.now l.wider.now l.local.now l.peak_base.now l.peak_wider.now

pub long_is : {l : Lengths} (s : Solutions) → l ≡ lengths_of s → long_of l ≡ (λ t. length (lent s t))
long_is s e = rw e (long_lent s)

-- the run of a system of the file's edition
pub run_length_lem : (file : List ℕ) (s : System) → HasSystem (edition_at file) s → run_length file s ≡ solution_count file
unfolding run_length system_number
run_length_lem file s = go (edition_at file) s
  where
    go : (e : Edition) (s : System) → HasSystem e s → cond (leb (system_number s) (solutions e)) (solution_count file) 0 ≡ solution_count file
    go First (Base YearRound) h = refl
    go First (Base Peak) h = absurd h
    go First (Wider YearRound) h = refl
    go First (Wider Peak) h = absurd h
    go First Local h = refl
    go Second (Base YearRound) h = refl
    go Second (Base Peak) h = refl
    go Second (Wider YearRound) h = refl
    go Second (Wider Peak) h = refl
    go Second Local h = refl
