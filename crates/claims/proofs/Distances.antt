-- Where the nodal distances of two cases with the same names are close, so are those that their sheets show.
use mathlib.Core.Path.{◌≡◌, sym, ◌∙◌, ap, subst}
use mathlib.Core.List.{List}
use Prim.Native.Nat.{ℕ, ◌≤◌, ◌<◌}
use native.Mathlib.Omega.{arith}
use lib.IntN.{ℤ, neg_ℤ, nat_abs, ◌-ℤ◌}
use lib.ListN.{length}
use Rattle.integers.proofs.Core.{Z}
use Rattle.meaning.specs.Study.{Study, Runs}
use Rattle.meaning.specs.Editions.{Of, HasSystem, OfDistances}
use Rattle.meaning.specs.Grid.{grid_of, place}
use Rattle.meaning.specs.declared.Background.{Background}
use Rattle.meaning.specs.declared.System.{System}
use Rattle.meaning.specs.declared.System.TheVariants.{Wider, Local}
use Rattle.meaning.specs.declared.Side.{Side}
use Rattle.meaning.specs.declared.Side.TheVariants.{Generation, Demand}
use Rattle.meaning.specs.Figures.{form_of, metres_by, wider_metres, local_metres, distance}
use Rattle.meaning.specs.Sheet.{sheet}
use Rattle.meaning.specs.Read.{field, padded, line_at}
use Rattle.meaning.specs.Conditions.{SoundTables}
use Rattle.meaning.specs.Distances.{apart, shown_metres, shown_in, OfOneName, OfNode, DistancesWithin}
use Rattle.meaning.specs.OnlyDirections.{names_of}
use Rattle.meaning.proofs.Directions.{names_count, place_same}
use Rattle.claims.proofs.Shown.{zone_shows, row_named, local_shows}

module _ (m : ℕ) (S S' : Study) (sound : SoundTables S) (sound' : SoundTables S') (names : names_of S.nodes ≡ names_of S'.nodes)
    (edition : S.settings.edition ≡ S'.settings.edition) (runs runs' : Runs) (share share' : List ℕ)
    (near : (system : System) → OfDistances system → HasSystem S.settings.edition system → (v : ℕ) → v < length S.nodes → apart (metres_by system runs v) (metres_by system runs' v) ≤ m) where
  abbrev text : List ℕ
  text = sheet (grid_of S) runs share

  abbrev text' : List ℕ
  text' = sheet (grid_of S') runs' share'

  -- one name has one row in both
  one_row : (k k' : ℕ) → field 1 (line_at k text) ≡ field 1 (line_at k' text') → row_named S sound runs share k ≡ row_named S' sound' runs' share' k'
  one_row k k' e = ap (λ (f : List ℕ). place S.nodes (padded f)) e ∙ place_same S.nodes S'.nodes names (padded (field 1 (line_at k' text')))

  local_lines_lem : (k k' : ℕ) → OfOneName (line_at k text) (line_at k' text') → apart (shown_metres (line_at k text)) (shown_metres (line_at k' text')) ≤ m
  unfolding local_metres
  local_lines_lem k k' o =
      let s = local_shows S sound runs share k o.local in
      let s' = local_shows S' sound' runs' share' k' o.local' in
      rw (s.1, s'.1, sym (one_row k k' o.name)) (near Local tt tt (row_named S sound runs share k) s.0)

  -- a demand node's distance is the negative
  side_near : (b : Background) → Of b S.settings.edition → (side : Side) (v : ℕ) → v < length S.nodes → apart (distance runs b side v) (distance runs' b side v) ≤ m
  unfolding distance wider_metres
  side_near b of Generation v h = near (Wider b) tt of v h
  side_near b of Demand v h = turned (wider_metres runs b v) (wider_metres runs' b v) (near (Wider b) tt of v h)
    where
      turned : (y z : ℤ) → nat_abs (y -ℤ z) ≤ m → nat_abs (neg_ℤ y -ℤ neg_ℤ z) ≤ m
      turned y z h = simp Z (omega (arith, simp Z at h))

  zone_lines_lem : (b : Background) → Of b S.settings.edition → (side : Side) (v k k' : ℕ) → v < length S.nodes
      → OfNode (grid_of S) side v (line_at k text) → OfNode (grid_of S') side v (line_at k' text')
      → apart (shown_in (form_of (grid_of S) share side) b (line_at k text)) (shown_in (form_of (grid_of S') share' side) b (line_at k' text')) ≤ m
  unfolding grid_of
  zone_lines_lem b of side v k k' h o o' =
      rw (
        zone_shows S sound runs share b of side v k h o,
        zone_shows S' sound' runs' share' b (subst (Of b) edition of) side v k' (omega (arith, names_count S.nodes S'.nodes names)) o',
      )
      (side_near b of side v h)

  pub distances_within : DistancesWithin m (grid_of S) (grid_of S') runs runs' share share' text text'
  unfolding grid_of
  distances_within = record { nodal = near; local_lines = local_lines_lem; zone_lines = zone_lines_lem }
