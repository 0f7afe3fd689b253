-- Each column of a readable file is the field of the study's nodes.
use mathlib.Core.Path.{◌≡◌}
use mathlib.Core.List.{List}
use Prim.Native.Nat.{ℕ, ◌+◌}
use Rattle.meaning.specs.declared.Section.{Section}
use Rattle.meaning.specs.Study.{Study}
use Rattle.meaning.specs.File.{u32, row_at, node_at}
use Rattle.meaning.specs.Columns.{kilowatts, column}
use Rattle.meaning.specs.declared.Kw.{Kw}
use Rattle.meaning.proofs.Frame.{column_read}
use Rattle.layout.specs.Readable.{readable, section_in}
use Rattle.layout.proofs.Rows.{nodes_from}
use Rattle.node_table.specs.Columns.{nodes_of}

module _ (file : List ℕ) where
  abbrev S : Study
  S = readable file

  module _ {t : Section} (told : t ≡ section_in file 1) where
    pub nodes_are : (g z : List ℕ) (d : List Kw)
        → g ≡ column 0 256 t.count (λ i. u32 file (row_at t i + 12))
        → z ≡ column 0 256 t.count (λ i. u32 file (row_at t i + 16))
        → d ≡ column (kilowatts 0) 256 t.count (λ i. kilowatts (u32 file (row_at t i + 20)))
        → record { generation_zone = g; demand_zone = z; demand = d } ≡ nodes_of S
    unfolding nodes_of node_at
    nodes_are g z d p q r =
        let from = nodes_from file told in
        rw (p, q, r, column_read 256 (λ n. n.generation_zone) from, column_read 256 (λ n. n.demand_zone) from, column_read 256 (λ n. kilowatts n.demand) from)
