-- The number of a node by its name, as the search among the rows of the nodes' table finds it.
use mathlib.Core.Path.{◌≡◌, refl, ◌∙◌, ap}
use mathlib.Core.Bool.{false}
use mathlib.Core.List.{List, [], ◌∷◌}
use mathlib.Core.Option
use Prim.Native.Nat.{ℕ, ◌+◌, ◌≤◌, ◌<◌}
use native.Mathlib.Omega.{arith}
use lib.ListN.{length, get_or}
use Rattle.meaning.specs.Name.{Name, same_name}
use Rattle.meaning.specs.Study.{Node, node, no_node}
use Rattle.meaning.specs.declared.Section.{Section}
use Rattle.meaning.specs.File.{name_at, node_at, row_at}
use Rattle.meaning.specs.Grid.{place}
use Rattle.meaning.specs.Rows.{rows}
use Rattle.meaning.specs.Columns.{column}
use Rattle.meaning.proofs.Columns.{column_same}
use Rattle.meaning.proofs.Frame.{ReadFrom, column_read}
use Rattle.meaning.proofs.Rows.{lowest_same, lowest_none}
use Rattle.names.specs.Search.{name_row, first_named}
use Rattle.names.proofs.NameLaws.{name_long}

-- no name is that of no row
no_name : (name : Name) → 1 ≤ length name → same_name name [] ≡ false
unfolding same_name
no_name [] h = absurd (omega arith)
no_name (b ∷ name) h = refl

-- the nodes' table read from a section, and inside the file
module _ (file : List ℕ) {n : Section} {nodes : List Node} (from : ReadFrom (node_at file) no_node n nodes) (inside : (v : ℕ) → v < n.count → row_at n v < length file) where
  name_read : (v : ℕ) → v < n.count → (node nodes v).name ≡ name_row file n v
  unfolding node_at
  name_read v h = rw (from.at v h) refl

  place_read : (at : ℕ) → first_named file n at ≡ place nodes (name_at file at)
  unfolding place
  place_read at = rw from.count
      (ap (λ o. Option.get_or o n.count)
      (lowest_same (λ v. same_name (name_row file n v) (name_at file at)) (λ v. same_name (node nodes v).name (name_at file at)) n.count
      (λ v h. rw (name_read v h) refl)))

  -- a row past the end of a table has no name, and no node has that
  place_none : place nodes [] ≡ n.count
  unfolding place
  place_none = rw from.count
      (ap (λ o. Option.get_or o n.count)
      (lowest_none _ n.count (λ v h. rw (name_read v h)
      (no_name (name_row file n v) (omega (arith, name_long file (row_at n v), inside v h))))))

  -- the nodes that a field of another table names
  pub places_read : {A : Type 0} {row : ℕ → A} {none : A} {t : Section} {l : List A} (field : ℕ) (name : A → Name) → ReadFrom row none t l
      → name none ≡ [] → ((at : ℕ) → name_at file (at + field) ≡ name (row at))
      → column n.count 512 t.count (λ i. first_named file n (row_at t i + field)) ≡ rows 512 (λ i. place nodes (name (get_or l i none)))
  places_read {row = row} {t = t} field name read nameless named =
      column_same n.count 512 t.count _ _ (λ i h. place_read (row_at t i + field) ∙ ap (place nodes) (named (row_at t i)))
      ∙ rw (nameless, place_none) at (column_read 512 (λ a. place nodes (name a)) read)
