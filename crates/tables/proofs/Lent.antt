-- What became of a case whose columns were lent.
use mathlib.Core.Path.{◌≡◌, refl, sym, ◌∙◌}
use Rattle.std.specs.Prelude.{Ok, Err, IfOk}
use Rattle.meaning.specs.declared.Refusal.{Refusal}
use Rattle.meaning.specs.Answers.{Judgement, yields}
use Rattle.meaning.proofs.Answers.{yields_stops}
use Rattle.station_table.specs.Tec.{Possible}
use mathlib.Core.Bool.{Bool, true, false, cond}
use mathlib.Core.List.{List, []}
use Prim.Native.Nat.{ℕ, zero, suc, ◌/◌, ◌%◌, ◌≤◌}
use native.Mathlib.Omega.{arith}
use lib.ListN.{get_or, replicate}
use Rattle.meaning.specs.declared.Settings.{Settings}
use Rattle.meaning.specs.Rows.{lowest, rows}
use Rattle.meaning.specs.Name.{Name}
use Rattle.meaning.specs.Columns.{kilowatts, kw_at}
use Rattle.meaning.specs.Study.{Study, circuit, no_circuit}
use Rattle.meaning.specs.File.{u32, section_count, section, file_whole, study_of}
use Rattle.meaning.specs.Grid.{place, grid_of}
use Rattle.meaning.specs.Direction.{expanded_length}
use Rattle.meaning.proofs.Rows.{rows_none}
use Rattle.circuit_table.specs.declared.CircuitColumns.{CircuitColumns}
use Rattle.circuit_table.specs.Lengths.{length_in_range, length_if_in_range}
use Rattle.layout.specs.Readable.{readable}
use Rattle.layout.specs.Frame.{counts_of}
use Rattle.node_table.specs.Columns.{nodes_of}
use Rattle.circuit_table.specs.Columns.{circuits_of}
use Rattle.station_table.specs.Tec.{types_of}
use Rattle.tables.specs.declared.Opened.{Opened}
use Rattle.tables.specs.Order.{then_nodes, then_circuits}
use Rattle.tables.specs.Opens.{opened_of, filled, Columns, nothing_read}
use Rattle.tables.proofs.ReadLaws.{filled_stops}

-- it was stopped, whatever is in them
pub stopped : {j k : Judgement} {r : Refusal} (a b : Opened) → j ≡ Err r → k ≡ Err r → (yields j a ≡ yields k b) × IfOk (yields j a) (λ o. Possible o.by_type)
unfolding yields
stopped a b e f = (sym (yields_stops a e) ∙ yields_stops b f, rw e tt)

-- or they hold sums that are possible, where that holds whatever the answer is
pub given : (j : Judgement) (a : Opened) → Possible a.by_type → IfOk (yields j a) (λ o. Possible o.by_type)
unfolding yields
given (Ok _) a h = h
given (Err r) a h = tt

-- ---- `nothing_read` is the columns of an empty file, so where it was lent a table that was not read is without rows
empty_is : readable [] ≡ study_of []
unfolding readable
empty_is = go (file_whole [])
  where
    go : (b : Bool) → study_of (cond b [] []) ≡ study_of []
    go true = refl
    go false = refl

nodes_empty : (readable []).nodes ≡ []
unfolding study_of section section_count u32 rows
nodes_empty = rw empty_is refl

circuits_empty : (readable []).circuits ≡ []
unfolding study_of section section_count u32 rows
circuits_empty = rw empty_is refl

end_empty : (name : Name) → place (readable []).nodes name ≡ 0
unfolding place lowest
end_empty name = rw nodes_empty refl

no_length : (s : Settings) → length_if_in_range s no_circuit ≡ 0
unfolding length_if_in_range expanded_length
no_length s = go (length_in_range s no_circuit)
  where
    go : (b : Bool) → cond b (expanded_length s no_circuit) 0 ≡ 0
    go true = omega arith
    go false = refl

circuits_is : ◌≡◌ {A = CircuitColumns} (record { first = replicate 512 0; second = replicate 512 0; x = replicate 512 0; length = replicate 512 0; mark = replicate 512 0 }) (circuits_of (readable []))
unfolding circuits_of
circuits_is =
    rw (
      ← rows_none 512 (λ c. place (readable []).nodes (circuit (readable []).circuits c).first) 0 (λ i h. end_empty _),
      ← rows_none 512 (λ c. place (readable []).nodes (circuit (readable []).circuits c).second) 0 (λ i h. end_empty _),
      ← rows_none 512 (λ c. (circuit (readable []).circuits c).x) 0 (λ i h. rw circuits_empty refl),
      ← rows_none 512 (λ c. length_if_in_range (readable []).settings (circuit (readable []).circuits c)) 0 (λ i h. rw circuits_empty (no_length _)),
      ← rows_none 512 (λ c. (circuit (readable []).circuits c).local_mark) 0 (λ i h. rw circuits_empty refl),
    ) refl

types_is : replicate 1792 (kilowatts 0) ≡ types_of (readable [])
unfolding types_of grid_of rows
types_is = rows_none 1792 (λ c. kilowatts (get_or (get_or (grid_of (readable [])).capacity (c / 7) []) (c % 7) 0)) (kilowatts 0) (λ c h. rw nodes_empty refl)

pub nothing_is : nothing_read ≡ opened_of (readable [])
unfolding nothing_read opened_of
nothing_is = rw (circuits_is, types_is) refl

filled_over : {A : Type 0} (f : Study → A) (j : Judgement) (file : List ℕ) → filled j (f (readable file)) (f (readable [])) ≡ f (readable (filled j file []))
unfolding filled
filled_over f (Ok _) file = refl
filled_over f (Err r) file = refl

pub record WithoutRows (frame : Judgement) (file : List ℕ) (after : Opened) : Type 0 where
  pub counts : after.counts ≡ counts_of (readable file)
  pub settings : after.settings ≡ (readable file).settings
  pub nodes : after.nodes ≡ nodes_of (readable (filled (then_nodes frame file) file []))
  pub circuits : after.circuits ≡ circuits_of (readable (filled (then_nodes frame file) file []))
  pub by_type : after.by_type ≡ types_of (readable (filled (then_circuits frame file) file []))
  pub possible : Possible after.by_type

none_possible : (n cell : ℕ) → kw_at (replicate n (kilowatts 0)) cell ≤ 2199023255040
none_possible zero cell = omega arith
none_possible (suc n) zero = omega arith
none_possible (suc n) (suc cell) = none_possible n cell

pub without_rows : {frame : Judgement} {file : List ℕ} {after : Opened} → Columns frame file nothing_read after → WithoutRows frame file after
unfolding opened_of nothing_read
without_rows {frame} {file} {after} t =
    let u = rw nothing_is at t in
    record {
      counts = u.counts;
      settings = u.settings;
      nodes = u.nodes ∙ filled_over nodes_of _ file;
      circuits = u.circuits ∙ filled_over circuits_of _ file;
      by_type = u.by_type ∙ filled_over types_of _ file;
      possible = go (then_circuits frame file) refl;
    }
  where
    go : (j : Judgement) → then_circuits frame file ≡ j → Possible after.by_type
    go (Ok _) e = t.possible e
    go (Err r) e = rw (t.by_type ∙ filled_stops _ _ e) (λ cell. none_possible 1792 cell)
