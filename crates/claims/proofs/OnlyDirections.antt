-- 02, request 12: accepted cases of one network and the same directions have the same nodal distances, to within one metre, whatever their demand and TEC.
use mathlib.Core.Path.{◌≡◌, refl, sym, ◌∙◌, ap, subst}
use mathlib.Core.Logic.{◌≢◌}
use mathlib.Core.Bool.{Bool, true, false, true≢false}
use Prim.Native.Nat.{ℕ, ◌≤◌, ◌<◌}
use mathlib.Core.List.{List}
use lib.ListN.{length}
use Rattle.meaning.specs.Study.{Study, Runs}
use Rattle.meaning.specs.declared.Edition.{Edition}
use Rattle.meaning.specs.Editions.{HasSystem, OfDistances}
use Rattle.meaning.specs.File.{study_of}
use Rattle.meaning.specs.declared.System.{System}
use Rattle.meaning.specs.declared.System.TheVariants.{Base, Wider, Local}
use Rattle.meaning.specs.Grid.{grid_of}
use Rattle.meaning.specs.Systems.{supply}
use Rattle.meaning.specs.Figures.{metres_by}
use Rattle.meaning.specs.Outcome.{sheet_of}
use Rattle.meaning.specs.Conditions.{HasLength, Acceptable}
use Rattle.meaning.specs.Distances.{apart, DistancesWithin}
use Rattle.meaning.specs.Demands.{SameDirections}
use Rattle.meaning.specs.OnlyDirections.{Asked, same_circuits, same_names, same_factors, same_reference, same_directions, Holds, Own, OnlyDirectionsCount, OwnDirectionsCount}
use Rattle.meaning.proofs.Directions.{SameBackgrounds, first_backgrounds, network_shared, offset_own}
use Rattle.claims.proofs.Close.{OneSystem, metre_near}
use Rattle.claims.proofs.Distances.{distances_within}

-- all that is asked but directions
unfoldable is_directions : Asked → Bool
is_directions same_circuits = false
is_directions same_names = false
is_directions same_factors = false
is_directions same_reference = false
is_directions same_directions = true

other : (a : Asked) → is_directions a ≡ false → a ≢ same_directions
unfolding is_directions
other a f e = true≢false (sym (ap is_directions e) ∙ f)

-- a system of distances has no supply; with the backgrounds and directions of its own circuits it is the same in both
module _ (S S' : Study) (runs runs' : Runs) (grounds : SameBackgrounds S S' runs runs') (all : (a : Asked) → a ≢ same_directions → Holds a S S' runs runs') where
  no_supply : (system : System) → OfDistances system → supply (grid_of S) system ≡ supply (grid_of S') system
  unfolding supply
  no_supply (Base b) d = absurd d
  no_supply (Wider b) d = refl
  no_supply Local d = refl

  one_system : (system : System) → OfDistances system → SameDirections (λ c. HasLength c × Own system c) S S' runs runs' → OneSystem (grid_of S) (grid_of S') runs runs' system
  unfolding is_directions
  one_system system d headed = record {
    network = network_shared S S' runs runs' (all same_circuits (other _ refl)) (all same_names (other _ refl)) (all same_reference (other _ refl));
    supplies = no_supply system d;
    offsets = offset_own S S' runs runs' (all same_circuits (other _ refl)) (all same_factors (other _ refl)) grounds system headed;
  }

-- of either edition: two accepted cases of one edition whose circuits count for the same backgrounds
module _ (file file' : List ℕ) (runs runs' : Runs) (share share' : List ℕ) (a : Acceptable file runs share) (a' : Acceptable file' runs' share') (edition : (study_of file).settings.edition ≡ (study_of file').settings.edition)
    (grounds : SameBackgrounds (study_of file) (study_of file') runs runs') where
  own_metre : ((b : Asked) → b ≢ same_directions → Holds b (study_of file) (study_of file') runs runs') → (system : System) → OfDistances system
      → HasSystem (study_of file).settings.edition system → SameDirections (λ c. HasLength c × Own system c) (study_of file) (study_of file') runs runs'
      → (v : ℕ) → v < length (study_of file).nodes → apart (metres_by system runs v) (metres_by system runs' v) ≤ 1
  own_metre all system d has headed =
      metre_near (study_of file) a.study.tables (grid_of (study_of file')) runs runs' system
      (one_system (study_of file) (study_of file') runs runs' grounds all system d headed) (a.solved system has)
      (a'.solved system (subst (λ (e : Edition). HasSystem e system) edition has))

  pub one_network : ((b : Asked) → Holds b (study_of file) (study_of file') runs runs')
      → DistancesWithin 1 (grid_of (study_of file)) (grid_of (study_of file')) runs runs' share share' (sheet_of file runs share) (sheet_of file' runs' share')
  one_network all =
      distances_within 1 (study_of file) (study_of file') a.study.tables a'.study.tables (all same_names) edition runs runs' share share'
      (λ system d has. own_metre (λ b n. all b) system d has (λ c k p. all same_directions c k p.0))

-- ---- "over edition 1", whose circuits all count for one background
pub own_directions_count : OwnDirectionsCount
own_directions_count file file' runs runs' share share' a a' first all system d has =
    own_metre file file' runs runs' share share' a a' (first.0 ∙ sym first.1) (first_backgrounds (study_of file) (study_of file') runs runs' first) all system d
    (subst (λ (e : Edition). HasSystem e system) (sym first.0) has)

pub only_directions_count : OnlyDirectionsCount
only_directions_count file file' runs runs' share share' a a' first =
    one_network file file' runs runs' share share' a a' (first.0 ∙ sym first.1) (first_backgrounds (study_of file) (study_of file') runs runs' first)
