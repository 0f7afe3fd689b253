-- What the lines of a sheet show, read back from their bytes: the metres of a zone whose kilowatts are all at one node, and the local metres of a node's line.
use mathlib.Core.Path.{◌≡◌, refl, sym, ◌∙◌, ap, ap₂}
use mathlib.Core.List.{List, []}
use mathlib.Core.Bool.{Bool, true, false, cond}
use Prim.Native.Nat.{ℕ, suc, ◌≤◌, ◌<◌}
use native.Mathlib.Omega.{arith}
use lib.Dec.{ltb}
use lib.IntN.{ℤ, pos, nat_abs, ◌+ℤ◌}
use lib.ListN.{length, get_or}
use Rattle.integers.proofs.Sum.{sum_item}
use Rattle.meaning.specs.declared.Background.{Background}
use Rattle.meaning.specs.declared.Background.TheVariants.{YearRound, Peak}
use Rattle.meaning.specs.Editions.{Of}
use Rattle.meaning.specs.declared.Side.{Side}
use Rattle.meaning.specs.Study.{Study, Runs}
use Rattle.meaning.specs.Grid.{Grid, grid_of, place}
use Rattle.meaning.specs.Figures.{zone_weight, form_of, zonal_metres, priced, own_metres, distance, local_metres, basis}
use Rattle.meaning.specs.Charging as charging
use Rattle.meaning.specs.Text.{text, decimals}
use Rattle.meaning.specs.Sheet.{letter, node_fields, sheet}
use Rattle.meaning.specs.Read.{pieces, field, read_natural, read_whole, has_letter, padded, line_at, metres_field}
use Rattle.meaning.specs.Conditions.{SoundTables}
use Rattle.meaning.specs.Distances.{weight_in, shown_metres, shown_in, OfNode}
use Rattle.meaning.proofs.Says.{Says, says_le}
use Rattle.meaning.proofs.Sides.{zone_of_one}
use Rattle.meaning.proofs.Shared.{own_peak}
use Rattle.sharing.proofs.Adds.{parts_add_up}
use Rattle.meaning.proofs.Tables.{place_own, rowwise}
use Rattle.claims.proofs.Digits.{differs, read_decimal}
use Rattle.claims.proofs.Names.{name_back}
use Rattle.claims.proofs.Lines.{Line, metres_from}
use Rattle.claims.proofs.ReadBack.{node_of, read_of, metres_shown, node_lines_agree, field_read, shared_read}

module _ (S : Study) (sound : SoundTables S) (runs : Runs) (share : List ℕ) where
  abbrev G : Grid
  G = grid_of S

  -- ---- the line of a zone whose kilowatts are all at node v shows that node's distance
  weighs : (side : Side) (zone v : ℕ) → v < length G.nodes → 1 ≤ weight_in G side zone v → zone_weight G side zone ≡ 0 → ⊥
  unfolding zone_weight
  weighs side zone v h some e = omega (arith, sum_item (length G.nodes) v (weight_in G side zone) h)

  -- a background's metres, where the zone has kilowatts
  metres_read : (b : Background) → Of b G.settings.edition → (side : Side) (zone : ℕ) → (zone_weight G side zone ≡ 0 → ⊥)
      → read_of S sound runs share side zone (metres_field (form_of G share side) b) ≡ own_metres G runs share b side zone
  metres_read b h side zone some = metres_shown S sound runs share side zone b h ∙ rw (differs (zone_weight G side zone) 0 some) refl

  peak_own : (side : Side) (zone : ℕ) → own_metres G runs share Peak side zone ≡ zonal_metres G runs Peak side zone
  unfolding charging.priced basis
  peak_own side zone = own_peak (priced G runs share side) zone

  -- not-shared and shared metres are all of them
  pub all_read : (b : Background) → Of b G.settings.edition → (side : Side) (i : ℕ) → has_letter (letter side) (line_at i (sheet G runs share)) ≡ true
      → (zone_weight G side (read_natural 0 (field 1 (line_at i (sheet G runs share)))) ≡ 0 → ⊥)
      → shown_in (form_of G share side) b (line_at i (sheet G runs share)) ≡ zonal_metres G runs b side (read_natural 0 (field 1 (line_at i (sheet G runs share))))
  all_read YearRound of side i h some =
      let zone = read_natural 0 (field 1 (line_at i (sheet G runs share))) in
      ap₂ ◌+ℤ◌ (field_read S sound runs share (metres_field (form_of G share side) YearRound) (metres_from (form_of G share side) YearRound) side i h ∙ metres_read YearRound of side zone some)
      (shared_read S sound runs share side i h ∙ rw (differs (zone_weight G side zone) 0 some) refl)
      ∙ parts_add_up G runs share side zone
  all_read Peak of side i h some =
      let zone = read_natural 0 (field 1 (line_at i (sheet G runs share))) in
      field_read S sound runs share (metres_field (form_of G share side) Peak) (metres_from (form_of G share side) Peak) side i h
      ∙ metres_read Peak of side zone some
      ∙ peak_own side zone

  pub zone_shows : (b : Background) → Of b G.settings.edition → (side : Side) (v i : ℕ) → v < length G.nodes → OfNode G side v (line_at i (sheet G runs share))
      → shown_in (form_of G share side) b (line_at i (sheet G runs share)) ≡ distance runs b side v
  zone_shows b of side v i h o =
      let zone = read_natural 0 (field 1 (line_at i (sheet G runs share))) in
      all_read b of side i o.zonal (weighs side zone v h o.some)
      ∙ zone_of_one G runs b side zone v h o.some o.others

  -- ---- an `L` line has the name of a node, and shows its local metres
  abbrev row_of : Line → ℕ
  row_of fs = place S.nodes (padded (get_or fs 1 []))

  row_own : (v : ℕ) → v < length S.nodes → row_of (node_of S sound runs share v) ≡ v
  unfolding node_fields grid_of
  row_own v h = ap (place S.nodes) (name_back (sound.nodes v h).name) ∙ place_own S (rowwise S sound) v h

  is_node : Line → ℤ
  is_node fs = cond (ltb (row_of fs) (length S.nodes)) (pos 1) (pos 0)

  local_is_node : (i : ℕ) → has_letter (text "L") (line_at i (sheet G runs share)) ≡ true → row_of (pieces 32 (line_at i (sheet G runs share))) < length S.nodes
  unfolding is_node grid_of
  local_is_node i h =
      go (ltb (row_of line) (length S.nodes)) says_le
      (node_lines_agree S sound runs share is_node (λ fs. pos 1) (λ v l. rw (row_own v l, (says_le {m = suc v} {n = length S.nodes}).1 l) refl) i h)
    where
      line : Line
      line = pieces 32 (line_at i (sheet G runs share))

      go : (b : Bool) → Says b (row_of line < length S.nodes) → cond b (pos 1) (pos 0) ≡ pos 1 → row_of line < length S.nodes
      go true s e = s.0 refl
      go false s e = absurd (zero≢one (ap nat_abs e))
        where
          zero≢one : ◌≡◌ {A = ℕ} 0 1 → ⊥
          zero≢one h = omega arith

  -- the row of the node that a line names
  abbrev pub row_named : (i : ℕ) → ℕ
  row_named i = place S.nodes (padded (field 1 (line_at i (sheet G runs share))))

  pub local_shows : (i : ℕ) → has_letter (text "L") (line_at i (sheet G runs share)) ≡ true
      → (row_named i < length S.nodes) × (shown_metres (line_at i (sheet G runs share)) ≡ local_metres runs (row_named i))
  unfolding field node_fields decimals charging.local_figures basis
  local_shows i h = (
    local_is_node i h,
    node_lines_agree S sound runs share (λ fs. read_whole (get_or fs 2 [])) (λ fs. local_metres runs (row_of fs))
        (λ v l. read_decimal (local_metres runs v) ∙ sym (ap (local_metres runs) (row_own v l))) i h,
  )
