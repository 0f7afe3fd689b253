-- What says a network, a length and an offset: circuits, names in order, the reference, the six factors and directions, and nothing else of a case.
use mathlib.Core.Path.{◌≡◌, refl, sym, ◌∙◌, ap, ap₂, fun_ext}
use mathlib.Core.Bool.{Bool, true, false, cond, true≢false}
use mathlib.Core.List.{List, []}
use mathlib.Core.Option
use Prim.Native.Nat.{ℕ, zero, suc, ◌+◌, ◌*◌, ◌-◌, ◌≤◌, ◌<◌}
use native.Mathlib.Omega.{arith}
use native.Mathlib.Nat.{zero-mul}
use native.Mathlib.Decide.{dec_le, dec_lt}
use lib.IntN.{ℤ, pos}
use lib.ListN.{length, get_or, get_or-eq_default}
use Rattle.meaning.specs.Name.{Name, same_name}
use Rattle.meaning.specs.Rows.{lowest}
use Rattle.meaning.specs.declared.Settings.{Settings}
use Rattle.meaning.specs.Study.{Node, Circuit, Study, Runs, node, circuit, no_circuit}
use Rattle.meaning.specs.declared.Edition.{Edition}
use Rattle.meaning.specs.declared.Edition.TheVariants.{First}
use Rattle.meaning.specs.declared.Background.{Background}
use Rattle.meaning.specs.declared.Background.TheVariants.{YearRound, Peak}
use Rattle.meaning.specs.Editions.{same_background}
use Rattle.meaning.specs.declared.System.{System}
use Rattle.meaning.specs.declared.System.TheVariants.{Base, Wider, Local}
use Rattle.meaning.specs.declared.Direction.{Direction}
use Rattle.meaning.specs.declared.Direction.TheVariants.{Idle, Forward, Backward, InDoubt}
use Rattle.meaning.specs.Grid.{Grid, grid_of, place}
use Rattle.meaning.specs.Network.{network_of}
use Rattle.meaning.specs.Direction.{overhead_factor, cable_factor, expanded_length, direction, counts_for, background, signed, signed_length}
use Rattle.meaning.specs.Systems.{base_flow, counting, background_of, length_of, offset}
use Rattle.meaning.specs.Conditions.{HasLength}
use Rattle.meaning.specs.Demands.{SameDirections}
use Rattle.meaning.specs.OnlyDirections.{factors_of, names_of, Own, BothFirst, Holds, same_circuits, same_names, same_factors, same_reference, same_directions}
use Rattle.meaning.proofs.Says.{Says, says_eq}
use Rattle.meaning.proofs.Rows.{lowest_same, rows_at, length_rows}

-- ---- a name's place is said by the names alone, and a network by circuits, names and reference
module _ (nodes nodes' : List Node) (e : names_of nodes ≡ names_of nodes') where
  pub names_count : length nodes ≡ length nodes'
  names_count = sym (length_rows (length nodes) _) ∙ ap length e ∙ length_rows (length nodes') _

  name_at : (v : ℕ) → v < length nodes → (node nodes v).name ≡ (node nodes' v).name
  name_at v h = sym (rows_at [] (length nodes) _ v h) ∙ ap (λ (l : List Name). get_or l v []) e ∙ rows_at [] (length nodes') _ v (omega (arith, names_count))

  pub place_same : (name : Name) → place nodes name ≡ place nodes' name
  unfolding place
  place_same name =
      ap₂ Option.get_or
      (lowest_same _ _ (length nodes) (λ v h. ap (λ (m : Name). same_name m name) (name_at v h))
      ∙ ap (λ (k : ℕ). lowest (λ v. same_name (node nodes' v).name name) k) names_count)
      names_count

pub network_shared : (S S' : Study) (runs runs' : Runs) → Holds same_circuits S S' runs runs' → Holds same_names S S' runs runs' → Holds same_reference S S' runs runs'
    → network_of (grid_of S) ≡ network_of (grid_of S')
unfolding network_of grid_of
network_shared S S' runs runs' c n r = λ i. record {
  nodes = names_count S.nodes S'.nodes n i;
  circuits = ap length c i;
  reference = ap (λ (k : ℕ). k - 1) r i;
  first = fun_ext (λ k. ap₂ (λ (l : List Circuit) (f : Name → ℕ). f (circuit l k).first) c places) i;
  second = fun_ext (λ k. ap₂ (λ (l : List Circuit) (f : Name → ℕ). f (circuit l k).second) c places) i;
  x = fun_ext (λ k. ap (λ (l : List Circuit). (circuit l k).x) c) i;
}
  where
    places : place S.nodes ≡ place S'.nodes
    places = fun_ext (place_same S.nodes S'.nodes n)

-- ---- an expanded length is said by its row and the six factors
-- settings with these factors, and nothing else
abbrev only_factors : List ℕ → Settings
only_factors l =
    record {
      generation_zones = 0;
      demand_zones = 0;
      p = 0;
      constant = 0;
      wider_factor = 0;
      local_factor = 0;
      overhead400 = get_or l 0 0;
      cable400 = get_or l 1 0;
      overhead275 = get_or l 2 0;
      cable275 = get_or l 3 0;
      overhead132 = get_or l 4 0;
      cable132 = get_or l 5 0;
      reference = 0;
      edition = First;
      revenue = 0;
    }

by_factors : (s : Settings) (c : Circuit) → expanded_length s c ≡ expanded_length (only_factors (factors_of s)) c
unfolding expanded_length overhead_factor cable_factor
by_factors s c = refl

expanded_same : (s s' : Settings) (c : Circuit) → factors_of s ≡ factors_of s' → expanded_length s c ≡ expanded_length s' c
expanded_same s s' c e = by_factors s c ∙ ap (λ (l : List ℕ). expanded_length (only_factors l) c) e ∙ sym (by_factors s' c)

-- ---- lengths with a sign
-- a circuit without a length has a signed length of 0, whatever its flow
no_length : (s : Settings) (c : Circuit) (d : Direction) → (HasLength c → ⊥) → signed d (pos (1000000 * expanded_length s c)) ≡ pos 0
unfolding expanded_length signed
no_length s c d h = rw (empty c.overhead c.cable _ _ (omega arith)) (nought d)
  where
    empty : (a b m n : ℕ) → a + b ≡ 0 → 1000000 * (a * m + b * n) ≡ 0
    empty zero zero m n e = rw (zero-mul m, zero-mul n) refl
    empty (suc a) b m n e = absurd (omega arith)
    empty zero (suc b) m n e = absurd (omega arith)

    nought : (d : Direction) → signed d (pos 0) ≡ pos 0
    nought Idle = refl
    nought Forward = refl
    nought Backward = refl
    nought InDoubt = refl

-- one expanded length and, where there is a length, one direction
length_same : (s s' : Settings) (c : Circuit) (f f' : ℤ) → expanded_length s c ≡ expanded_length s' c
    → (HasLength c → direction f ≡ direction f') → signed_length s c f ≡ signed_length s' c f'
unfolding signed_length
length_same s s' c f f' e same = go (dec_le 1 (c.overhead + c.cable))
  where
    go : Dec (HasLength c) → signed (direction f) (pos (1000000 * expanded_length s c)) ≡ signed (direction f') (pos (1000000 * expanded_length s' c))
    go (yes h) = ap₂ (λ (d : Direction) (n : ℕ). signed d (pos (1000000 * n))) (same h) e
    go (no h) = no_length s c _ h ∙ sym (no_length s' c _ h)

-- a row past the table has no length
in_table : (circuits : List Circuit) (c : ℕ) → HasLength (circuit circuits c) → c < length circuits
in_table circuits c h = go (dec_lt c (length circuits))
  where
    go : Dec (c < length circuits) → c < length circuits
    go (yes k) = k
    go (no k) = absurd (omega (arith, rw (get_or-eq_default circuits no_circuit (past k)) at h))
      where
        past : (c < length circuits → ⊥) → length circuits ≤ c
        past k = omega arith

no_length_of : (S : Study) (runs : Runs) (c : ℕ) → (HasLength (circuit S.circuits c) → ⊥) → length_of (grid_of S) runs c ≡ pos 0
unfolding length_of signed_length grid_of
no_length_of S runs c h = no_length S.settings (circuit S.circuits c) _ h

-- what of a length stands in a background's wider solution
abbrev part_in : Background → Grid → Runs → ℕ → ℤ
part_in b G runs c = cond (same_background b (background_of G runs c)) (length_of G runs c) (pos 0)

nothing : (b : Bool) {z : ℤ} → z ≡ pos 0 → cond b z (pos 0) ≡ pos 0
nothing true e = e
nothing false e = refl

-- by a test: the one where it holds, the other where it does not
cond_same : {P : Type 0} (b : Bool) {x x' y y' : ℤ} → Says b P → (P → x ≡ x') → ((P → ⊥) → y ≡ y') → cond b x y ≡ cond b x' y'
cond_same true s e f = e (s.0 refl)
cond_same false s e f = f (λ p. true≢false (sym (s.1 p)))

-- ---- a background counts where a circuit has a length; in edition 1 all count for the one
abbrev pub SameBackgrounds : (S S' : Study) (runs runs' : Runs) → Type 0
SameBackgrounds S S' runs runs' = (c : ℕ) → c < length S.circuits → HasLength (circuit S.circuits c) → background_of (grid_of S) runs c ≡ background_of (grid_of S') runs' c

pub first_background : (G : Grid) (runs : Runs) (c : ℕ) → G.settings.edition ≡ First → background_of G runs c ≡ YearRound
unfolding counting counts_for background
first_background G runs c first =
    ap (λ (e : Edition). background (counts_for e (circuit G.circuits c).local_mark (base_flow G runs YearRound c) (base_flow G runs Peak c))) first

pub first_backgrounds : (S S' : Study) (runs runs' : Runs) → BothFirst S S' → SameBackgrounds S S' runs runs'
unfolding grid_of
first_backgrounds S S' runs runs' first c h k = first_background (grid_of S) runs c first.0 ∙ sym (first_background (grid_of S') runs' c first.1)

-- ---- so the offsets of a system are said by circuits, factors and the backgrounds and directions of its circuits
module _ (S S' : Study) (runs runs' : Runs) (rows : Holds same_circuits S S' runs runs') (scales : Holds same_factors S S' runs runs')
    (grounds : SameBackgrounds S S' runs runs') where
  same_mark : (c : ℕ) → (circuit S.circuits c).local_mark ≡ (circuit S'.circuits c).local_mark
  same_mark c = ap (λ (l : List Circuit). (circuit l c).local_mark) rows

  -- of circuits of one kind, where they have a length
  same_length : (Kind : Circuit → Type 0) → SameDirections (λ c. HasLength c × Kind c) S S' runs runs' → (c : ℕ) → Kind (circuit S.circuits c)
      → length_of (grid_of S) runs c ≡ length_of (grid_of S') runs' c
  unfolding length_of grid_of
  same_length Kind headed c kind =
      length_same S.settings S'.settings (circuit S.circuits c) _ _ (expanded_same S.settings S'.settings (circuit S.circuits c) scales)
      (λ h. headed c (in_table S.circuits c h) (h, kind))
      ∙ ap (λ (l : List Circuit). signed_length S'.settings (circuit l c) (base_flow (grid_of S') runs' (background_of (grid_of S') runs' c) c)) rows

  -- and in the background that they count for
  same_part : (b : Background) → SameDirections (λ c. HasLength c × Own (Wider b) c) S S' runs runs' → (c : ℕ) → Own (Wider b) (circuit S.circuits c)
      → part_in b (grid_of S) runs c ≡ part_in b (grid_of S') runs' c
  same_part b headed c own = go (dec_le 1 ((circuit S.circuits c).overhead + (circuit S.circuits c).cable))
    where
      go : Dec (HasLength (circuit S.circuits c)) → part_in b (grid_of S) runs c ≡ part_in b (grid_of S') runs' c
      go (yes h) =
          ap₂ (λ (d : Background) (z : ℤ). cond (same_background b d) z (pos 0)) (grounds c (in_table S.circuits c h) h)
          (same_length (Own (Wider b)) headed c own)
      go (no h) =
          let z = no_length_of S runs c h in
          nothing (same_background b (background_of (grid_of S) runs c)) z
          ∙ sym (nothing (same_background b (background_of (grid_of S') runs' c)) (sym (same_length (Own (Wider b)) headed c own) ∙ z))

  -- of its own circuits
  pub offset_own : (system : System) → SameDirections (λ c. HasLength c × Own system c) S S' runs runs' → offset (grid_of S) runs system ≡ offset (grid_of S') runs' system
  unfolding offset grid_of
  offset_own (Base b) headed = refl
  offset_own (Wider b) headed = fun_ext (λ c. rw (sym (same_mark c)) (cond_same _ says_eq (same_part b headed c) (λ m. refl)))
  offset_own Local headed = fun_ext (λ c. rw (sym (same_mark c)) (cond_same _ says_eq (λ e. refl) (same_length (Own Local) headed c)))

  -- and so of all
  pub offset_shared : Holds same_directions S S' runs runs' → (system : System) → offset (grid_of S) runs system ≡ offset (grid_of S') runs' system
  offset_shared headed system = offset_own system (λ c k p. headed c k p.0)
