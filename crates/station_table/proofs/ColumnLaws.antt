-- Each column of a readable file is the field of the study's stations.
use mathlib.Core.Path.{◌≡◌, refl}
use mathlib.Core.List.{List}
use Prim.Native.Nat.{ℕ, ◌+◌}
use Rattle.meaning.specs.declared.Kw.{Kw}
use Rattle.meaning.specs.declared.Section.{Section}
use Rattle.meaning.specs.Study.{Station, Study}
use Rattle.meaning.specs.File.{u32, row_at, station_at}
use Rattle.meaning.specs.Columns.{kilowatts, column}
use Rattle.meaning.proofs.Frame.{column_read}
use Rattle.names.specs.Search.{first_named}
use Rattle.names.proofs.PlaceLaws.{places_read}
use Rattle.layout.specs.Readable.{readable, section_in}
use Rattle.layout.proofs.Rows.{nodes_from, node_inside, stations_from}
use Rattle.station_table.specs.Columns.{stations_of}

module _ (file : List ℕ) where
  abbrev S : Study
  S = readable file

  module _ {n t : Section} (nodes : n ≡ section_in file 1) (told : t ≡ section_in file 3) where
    pub stations_are : (v p : List ℕ) (w : List Kw)
        → v ≡ column n.count 512 t.count (λ i. first_named file n (row_at t i + 12))
        → p ≡ column 0 512 t.count (λ i. u32 file (row_at t i + 24))
        → w ≡ column (kilowatts 0) 512 t.count (λ i. kilowatts (u32 file (row_at t i + 28)))
        → record { node = v; plant = p; tec = w } ≡ stations_of S
    unfolding stations_of station_at
    stations_are v p w e f g =
        let from = stations_from file told in
        let named = places_read file (nodes_from file nodes) (node_inside file nodes) 12 (λ (r : Station). r.node) from refl (λ at. refl) in
        rw (e, f, g, named, column_read 512 (λ r. r.plant_type) from, column_read 512 (λ r. kilowatts r.tec) from)
