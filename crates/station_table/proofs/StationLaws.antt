-- 5: the stations' table, row by row.
use mathlib.Core.Path.{◌≡◌, refl}
use mathlib.Core.List.{List}
use mathlib.Core.Bool.{not, ◌||◌}
use Prim.Native.Nat.{ℕ, ◌+◌, ◌≤◌, ◌<◌}
use native.Mathlib.Omega.{arith}
use lib.ListN.{get_or}
use Rattle.meaning.specs.declared.Refusal.TheVariants.{BadStation}
use Rattle.std.specs.Prelude.{Ok, Err}
use Rattle.meaning.specs.declared.Section.{Section}
use Rattle.meaning.specs.Study.{station, no_station}
use Rattle.meaning.specs.File.{row_at, station_at}
use Rattle.meaning.specs.Tables.{seen_earlier, sound_station_row, sound_station, stations_stage}
use Rattle.meaning.specs.Grid.{place}
use Rattle.meaning.proofs.Rows.{rows_at}
use Rattle.meaning.proofs.Frame.{ReadFrom}
use Rattle.names.specs.Search.{name_row}
use Rattle.layout.specs.Readable.{readable}
use Rattle.station_table.specs.Columns.{stations_of}
use Rattle.layout.proofs.Rows.{stations_from, stations_few}
use Rattle.meaning.specs.First.{IsFirst}
use Rattle.station_table.specs.Told.{ToldNode, ToldStations, unsound_station}
use Rattle.meaning.proofs.First.{first_as, lower_first, lower_second, not-and, at_first, at_none, seen_same}

module _ (file : List ℕ) {n : ℕ} {t : Section} {k : List ℕ} (told : ToldStations file n t k) where
  abbrev from : ReadFrom (station_at file) no_station t (readable file).stations
  from = stations_from file told.section

  pub few : t.count ≤ 512
  few = stations_few file told.section

  identifier : (i : ℕ) → i < t.count → (station (readable file).stations i).identifier ≡ name_row file t i
  unfolding station_at
  identifier i h = rw (from.at i h) refl

  node_is : (i : ℕ) → i < t.count → get_or k i 0 ≡ place (readable file).nodes (station (readable file).stations i).node
  unfolding stations_of
  node_is i h = rw told.column (rows_at 0 512 _ i (omega (arith, few)))

  -- the column is the node of the row at its place
  pub node_at : (i : ℕ) → i < t.count → ToldNode file (row_at t i) n (get_or k i 0)
  unfolding station_at
  node_at i h = record { nodes = told.nodes; node = rw (from.at i h) at (node_is i h) }

  -- a row's test, read at its place
  station_test : (i : ℕ) → i < t.count → (unsound_station file t i || seen_earlier (name_row file t) i) ≡ not (sound_station (readable file) i)
  unfolding sound_station
  station_test i h =
      rw (from.at i h, seen_same (λ j. (station (readable file).stations j).identifier) (name_row file t) i (λ j l. identifier j (omega arith)))
      (not-and (sound_station_row (readable file).nodes (station_at file (row_at t i))) (seen_earlier (name_row file t) i))

  module _ {r s : ℕ} (f : IsFirst (unsound_station file t) t.count r) (g : IsFirst (seen_earlier (name_row file t)) t.count s) where
    pub station_unsound : r < s → Err (BadStation (r + 1)) ≡ stations_stage (readable file)
    unfolding stations_stage
    station_unsound h = rw from.count (at_first BadStation (first_as station_test (lower_first f g (omega arith))) (omega (arith, g.within)))

    pub station_repeated : s ≤ r → s < t.count → Err (BadStation (s + 1)) ≡ stations_stage (readable file)
    unfolding stations_stage
    station_repeated h l = rw from.count (at_first BadStation (first_as station_test (lower_second f g h)) l)

    pub stations_sound : s ≤ r → t.count ≤ s → Ok tt ≡ stations_stage (readable file)
    unfolding stations_stage
    stations_sound h l = rw from.count (at_none BadStation (first_as station_test (lower_second f g h)) l)
