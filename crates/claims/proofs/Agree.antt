-- Demand 3: two accepted cases that differ in stations and proposals alone agree. Their backgrounds do, so their directions, so their distances.
use mathlib.Core.Path.{◌≡◌, refl, sym, ◌∙◌, ap, ap₂, subst}
use mathlib.Core.Logic.{◌≢◌}
use mathlib.Core.Bool.{Bool, true, false, cond}
use Prim.Native.Nat.{ℕ}
use lib.Dec.{eqb}
use lib.IntN.{ℤ}
use Rattle.meaning.specs.Study.{Study, Runs, circuit}
use Rattle.meaning.specs.File.{study_of}
use Rattle.meaning.specs.declared.Settings.{Settings}
use Rattle.meaning.specs.declared.Edition.{Edition}
use Rattle.meaning.specs.declared.Edition.TheVariants.{First, Second}
use Rattle.meaning.specs.declared.Background.{Background}
use Rattle.meaning.specs.declared.Background.TheVariants.{YearRound, Peak}
use Rattle.meaning.specs.declared.Counting.TheVariants.{For, Doubtful}
use Rattle.meaning.specs.Editions.{Of}
use Rattle.meaning.specs.declared.System.{System}
use Rattle.meaning.specs.declared.System.TheVariants.{Base}
use Rattle.meaning.specs.Grid.{Grid, grid_of}
use Rattle.meaning.specs.Network.{network_of}
use Rattle.meaning.specs.Direction.{direction, by_flows, counts_for, background}
use Rattle.meaning.specs.Proposal.{potential}
use Rattle.meaning.specs.Systems.{offset, base_flow, counting, background_of, heading}
use Rattle.meaning.specs.Sheet.{sheet}
use Rattle.meaning.specs.Outcome.{sheet_of}
use Rattle.meaning.specs.Conditions.{SoundTables}
use Rattle.meaning.specs.Distances.{DistancesWithin}
use Rattle.meaning.specs.Demands.{SolversAgree}
use Rattle.meaning.specs.OnlyDirections.{Asked, same_circuits, same_names, same_factors, same_reference, same_directions, Holds, factors_of, names_of}
use Rattle.meaning.proofs.Directions.{SameBackgrounds, offset_shared}
use Rattle.meaning.proofs.Proposals.{Solved}
use Rattle.network.proofs.Theorems.{directions_agree, backgrounds_agree}
use Rattle.network.specs.Statements.{SolvedTwice}
use Rattle.claims.proofs.Listed.{counts_in}
use Rattle.claims.proofs.Same.{same_grid}
use Rattle.claims.proofs.Close.{OneSystem, twice, potential_near}
use Rattle.claims.proofs.OnlyDirections.{one_network}

-- a circuit counts for the same background where its flows do; edition 1 has but one, and so have marked circuits
counts_same : (e : Edition) (local_mark : ℕ) (y p y' p' : ℤ) → (Of Peak e → by_flows y p ≢ Doubtful → by_flows y' p' ≢ Doubtful → by_flows y p ≡ by_flows y' p')
    → counts_for e local_mark y p ≢ Doubtful → counts_for e local_mark y' p' ≢ Doubtful → counts_for e local_mark y p ≡ counts_for e local_mark y' p'
unfolding counts_for
counts_same First local_mark y p y' p' same f g = refl
counts_same Second local_mark y p y' p' same f g = go (eqb local_mark 0) f g
  where
    go : (unmarked : Bool) → cond unmarked (by_flows y p) (For YearRound) ≢ Doubtful → cond unmarked (by_flows y' p') (For YearRound) ≢ Doubtful
        → cond unmarked (by_flows y p) (For YearRound) ≡ cond unmarked (by_flows y' p') (For YearRound)
    go true f g = same tt f g
    go false f g = refl

-- ---- two proposals for one grid
module _ (S : Study) (sound : SoundTables S) (runs runs' : Runs) (s : Solved (grid_of S) runs) (s' : Solved (grid_of S) runs') where
  one_with : (system : System) → offset (grid_of S) runs system ≡ offset (grid_of S) runs' system → OneSystem (grid_of S) (grid_of S) runs runs' system
  one_with system e = record { network = refl; supplies = refl; offsets = e }

  -- a base has no offset, so it is solved twice
  base_twice : (b : Background) → Of b (grid_of S).settings.edition
      → SolvedTwice (network_of (grid_of S)) 100000000 100000000 (potential (runs (Base b))) (base_flow (grid_of S) runs b) (potential (runs' (Base b))) (base_flow (grid_of S) runs' b)
  unfolding offset
  base_twice b h = twice S sound (grid_of S) runs runs' (Base b) (one_with (Base b) refl) (s.each (Base b) h) (s'.each (Base b) h)

  -- so a circuit with a length counts for the same background
  same_background : SameBackgrounds S S runs runs'
  unfolding network_of grid_of counting
  same_background c k h =
      ap background
      (counts_same (grid_of S).settings.edition (circuit S.circuits c).local_mark (base_flow (grid_of S) runs YearRound c) (base_flow (grid_of S) runs Peak c)
      (base_flow (grid_of S) runs' YearRound c) (base_flow (grid_of S) runs' Peak c)
      (λ peak. backgrounds_agree _ _ _ _ _ _ _ _ _ (base_twice YearRound tt) (base_twice Peak peak) c k) (s.clear.decided c k h) (s'.clear.decided c k h))

  -- and has there the same direction
  same_direction : Holds same_directions S S runs runs'
  unfolding network_of grid_of
  same_direction c k h =
      let b = background_of (grid_of S) runs c in
      let turned : direction (base_flow (grid_of S) runs' b c) ≡ heading (grid_of S) runs' c = ap (λ (b : Background). direction (base_flow (grid_of S) runs' b c)) (same_background c k h) in
      directions_agree _ _ _ _ _ (base_twice b (counts_in (grid_of S) runs c)) c k (s.clear.clear c k h) (λ d. s'.clear.clear c k h (sym turned ∙ d)) ∙ turned

  -- so signed lengths agree, and where they stand: these are the offsets of the wider systems and the local one
  one : (system : System) → OneSystem (grid_of S) (grid_of S) runs runs' system
  one system = one_with system (offset_shared S S runs runs' refl refl same_background same_direction system)

-- ---- demand 3
pub solvers_agree : SolversAgree
unfolding grid_of
solvers_agree file file' runs runs' share a a' same = record {
  backgrounds = same_background S sound runs runs' s s';
  directions = same_direction S sound runs runs' s s';
  potentials = λ system has. potential_near S sound (grid_of S) runs runs' system (one S sound runs runs' s s' system) (s.each system has) (s'.each system has);
  distances = subst (λ (G : Grid). DistancesWithin 1 (grid_of S) G runs runs' share share (sheet_of file runs share) (sheet_of file' runs' share)) (sym (same_grid same))
      (one_network file file' runs runs' share share a a' (ap (λ (s : Settings). s.edition) same.settings) grounds all);
  sheets = λ r. ap₂ (λ (G : Grid) (R : Runs). sheet G R share) (same_grid same) r;
}
  where
    S : Study
    S = study_of file

    S' : Study
    S' = study_of file'

    sound : SoundTables S
    sound = a.study.tables

    s : Solved (grid_of S) runs
    s = record { each = a.solved; clear = a.directions }

    s' : Solved (grid_of S) runs'
    s' = rw (same_grid same) (record { each = a'.solved; clear = a'.directions })

    grounds : SameBackgrounds S S' runs runs'
    grounds c k h = same_background S sound runs runs' s s' c k h ∙ ap (λ (G : Grid). background_of G runs' c) (same_grid same)

    all : (b : Asked) → Holds b S S' runs runs'
    all same_circuits = same.circuits
    all same_names = ap names_of same.nodes
    all same_factors = ap factors_of same.settings
    all same_reference = ap (λ (s : Settings). s.reference) same.settings
    all same_directions = λ c k h. same_direction S sound runs runs' s s' c k h ∙ ap (λ (G : Grid). heading G runs' c) (same_grid same)
