-- 3: the nodes' table, row by row.
use mathlib.Core.Path.{◌≡◌, refl}
use mathlib.Core.List.{List}
use mathlib.Core.Bool.{Bool, true, false, not, ◌||◌}
use Prim.Native.Nat.{ℕ, ◌+◌, ◌≤◌, ◌<◌}
use native.Mathlib.Omega.{arith}
use Rattle.std.specs.declared.option.Option.{Option}
use Rattle.std.specs.declared.option.Option.TheVariants.{None, Some}
use Rattle.std.specs.Option.{MatchOption}
use Rattle.meaning.specs.declared.Refusal.TheVariants.{BadNode}
use Rattle.std.specs.Prelude.{Ok, Err}
use Rattle.meaning.specs.declared.Section.{Section}
use Rattle.meaning.specs.declared.Settings.{Settings}
use Rattle.meaning.specs.Study.{node}
use Rattle.meaning.specs.File.{row_at, node_at}
use Rattle.meaning.specs.Tables.{seen_earlier, sound_node_row, sound_node, nodes_stage}
use Rattle.names.specs.Search.{name_row}
use Rattle.layout.specs.Readable.{readable, section_in}
use Rattle.layout.proofs.Rows.{nodes_from}
use Rattle.meaning.specs.First.{IsFirst}
use Rattle.node_table.specs.Told.{unsound_node}
use Rattle.meaning.proofs.First.{first_as, lower_first, lower_second, not-and, at_first, at_none, seen_same}

module _ (file : List ℕ) {t : Section} (told : t ≡ section_in file 1) {s : Settings} (settings : s ≡ (readable file).settings) where
  name_at : (i : ℕ) → i < t.count → (node (readable file).nodes i).name ≡ name_row file t i
  unfolding node_at
  name_at i h = rw ((nodes_from file told).at i h) refl

  -- a row's test, read at its place
  node_test : (i : ℕ) → i < t.count → (unsound_node s file t i || seen_earlier (name_row file t) i) ≡ not (sound_node (readable file) i)
  unfolding sound_node
  node_test i h =
      rw (settings, (nodes_from file told).at i h, seen_same (λ j. (node (readable file).nodes j).name) (name_row file t) i (λ j k. name_at j (omega arith)))
      (not-and (sound_node_row (readable file).settings (node_at file (row_at t i))) (seen_earlier (name_row file t) i))

  module _ {r k : ℕ} (f : IsFirst (unsound_node s file t) t.count r) (g : IsFirst (seen_earlier (name_row file t)) t.count k) where
    pub node_unsound : r < k → Err (BadNode (r + 1)) ≡ nodes_stage (readable file)
    unfolding nodes_stage
    node_unsound h =
        rw (nodes_from file told).count (at_first BadNode (first_as node_test (lower_first f g (omega arith))) (omega (arith, g.within)))

    pub node_repeated : k ≤ r → k < t.count → Err (BadNode (k + 1)) ≡ nodes_stage (readable file)
    unfolding nodes_stage
    node_repeated h l = rw (nodes_from file told).count (at_first BadNode (first_as node_test (lower_second f g h)) l)

    pub nodes_sound : k ≤ r → t.count ≤ k → Ok tt ≡ nodes_stage (readable file)
    unfolding nodes_stage
    nodes_sound h l = rw (nodes_from file told).count (at_none BadNode (first_as node_test (lower_second f g h)) l)
