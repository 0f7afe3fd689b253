-- Each column of a readable file is the field of the study's circuits.
use mathlib.Core.Path.{◌≡◌, refl, ap}
use mathlib.Core.List.{List}
use Prim.Native.Nat.{ℕ, ◌+◌}
use native.Mathlib.Omega.{arith}
use Rattle.meaning.specs.declared.Section.{Section}
use Rattle.meaning.specs.declared.Settings.{Settings}
use Rattle.meaning.specs.Study.{Circuit, Study}
use Rattle.meaning.specs.File.{u32, name_at, row_at, circuit_at}
use Rattle.meaning.specs.Columns.{column}
use Rattle.meaning.proofs.Frame.{column_read}
use Rattle.names.specs.Search.{first_named}
use Rattle.names.proofs.PlaceLaws.{places_read}
use Rattle.layout.specs.Readable.{readable, section_in}
use Rattle.layout.proofs.Rows.{nodes_from, node_inside, circuits_from}
use Rattle.circuit_table.specs.Lengths.{length_if_in_range}
use Rattle.circuit_table.specs.Columns.{circuits_of}
use Rattle.circuit_table.proofs.LengthLaws.{length_none}

add_none : (n : ℕ) → n + 0 ≡ n
add_none n = omega arith

module _ (file : List ℕ) where
  abbrev S : Study
  S = readable file

  module _ {n t : Section} (nodes : n ≡ section_in file 1) (told : t ≡ section_in file 2) where
    pub circuits_are : (s : Settings) (f g x l k : List ℕ) → s ≡ S.settings
        → f ≡ column n.count 512 t.count (λ i. first_named file n (row_at t i + 0))
        → g ≡ column n.count 512 t.count (λ i. first_named file n (row_at t i + 12))
        → x ≡ column 0 512 t.count (λ i. u32 file (row_at t i + 28))
        → l ≡ column 0 512 t.count (λ i. length_if_in_range s (circuit_at file t.size (row_at t i)))
        → k ≡ column 0 512 t.count (λ i. u32 file (row_at t i + 40))
        → record { first = f; second = g; x = x; length = l; mark = k } ≡ circuits_of S
    unfolding circuits_of circuit_at
    circuits_are s f g x l k d p q r u v =
        let from = circuits_from file told in
        let places = places_read file (nodes_from file nodes) (node_inside file nodes) in
        let first = places 0 (λ (c : Circuit). c.first) from refl (λ at. ap (name_at file) (add_none at)) in
        let second = places 12 (λ (c : Circuit). c.second) from refl (λ at. refl) in
        let lengths = rw (length_none S.settings) at (column_read 512 (length_if_in_range S.settings) from) in
        rw (p, q, r, u, v, d, first, second, column_read 512 (λ c. c.x) from, lengths, column_read 512 (λ c. c.local_mark) from)
