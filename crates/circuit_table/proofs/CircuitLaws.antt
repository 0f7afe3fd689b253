-- 4: the circuits' table, row by row.
use mathlib.Core.Path.{◌≡◌, refl}
use mathlib.Core.List.{List}
use mathlib.Core.Bool.{not}
use Prim.Native.Nat.{ℕ, ◌+◌, ◌≤◌, ◌<◌}
use native.Mathlib.Omega.{arith}
use lib.ListN.{get_or}
use Rattle.meaning.specs.declared.Section.{Section}
use Rattle.meaning.specs.declared.Refusal.TheVariants.{BadCircuit}
use Rattle.std.specs.Prelude.{Ok, Err}
use Rattle.meaning.specs.Study.{circuit, no_circuit}
use Rattle.meaning.specs.File.{row_at, circuit_at}
use Rattle.meaning.specs.Tables.{sound_circuit, circuits_stage}
use Rattle.meaning.specs.Grid.{place}
use Rattle.meaning.proofs.Rows.{rows_at}
use Rattle.meaning.proofs.Frame.{ReadFrom}
use Rattle.circuit_table.specs.declared.CircuitColumns.{CircuitColumns}
use Rattle.layout.specs.Readable.{readable}
use Rattle.circuit_table.specs.Columns.{circuits_of}
use Rattle.layout.proofs.Rows.{circuits_from, circuits_few}
use Rattle.meaning.specs.First.{IsFirst}
use Rattle.circuit_table.specs.Told.{ToldEnds, ToldCircuits, unsound_circuit}
use Rattle.meaning.proofs.First.{first_as, at_first, at_none}

module _ (file : List ℕ) {n : ℕ} {t : Section} {c : CircuitColumns} (told : ToldCircuits file n t c) where
  abbrev from : ReadFrom (circuit_at file t.size) no_circuit t (readable file).circuits
  from = circuits_from file told.section

  pub few : t.count ≤ 512
  few = circuits_few file told.section

  first_is : (i : ℕ) → i < t.count → get_or c.first i 0 ≡ place (readable file).nodes (circuit (readable file).circuits i).first
  unfolding circuits_of
  first_is i h = rw told.columns (rows_at 0 512 _ i (omega (arith, few)))

  second_is : (i : ℕ) → i < t.count → get_or c.second i 0 ≡ place (readable file).nodes (circuit (readable file).circuits i).second
  unfolding circuits_of
  second_is i h = rw told.columns (rows_at 0 512 _ i (omega (arith, few)))

  -- the columns are the ends of the row at its place
  pub ends_at : (i : ℕ) → i < t.count → ToldEnds file (row_at t i) n (get_or c.first i 0) (get_or c.second i 0)
  unfolding circuit_at
  ends_at i h =
      record {
        nodes = told.nodes;
        first = rw (from.at i h) at (first_is i h);
        second = rw (from.at i h) at (second_is i h);
      }

  circuit_test : (i : ℕ) → i < t.count → unsound_circuit file t i ≡ not (sound_circuit (readable file) i)
  unfolding sound_circuit
  circuit_test i h = rw (from.at i h) refl

  pub circuit_unsound : {r : ℕ} → IsFirst (unsound_circuit file t) t.count r → r < t.count → Err (BadCircuit (r + 1)) ≡ circuits_stage (readable file)
  unfolding circuits_stage
  circuit_unsound f h = rw from.count (at_first BadCircuit (first_as circuit_test f) h)

  pub circuits_sound : {r : ℕ} → IsFirst (unsound_circuit file t) t.count r → t.count ≤ r → Ok tt ≡ circuits_stage (readable file)
  unfolding circuits_stage
  circuits_sound f h = rw from.count (at_none BadCircuit (first_as circuit_test f) h)
