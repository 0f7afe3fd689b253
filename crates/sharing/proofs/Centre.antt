-- 02, request 6: in an accepted case with a file in force there is one centre, and the chain of every zone with TEC ends there.
use mathlib.Core.Path.{◌≡◌, refl, sym, ap}
use mathlib.Core.Logic.{◌≢◌}
use mathlib.Core.Bool.{Bool, true, false, true≢false}
use mathlib.Core.List.{List, [], ◌∷◌}
use Prim.Native.Nat.{ℕ}
use Rattle.meaning.specs.declared.Edition.{Edition}
use Rattle.meaning.specs.declared.Edition.TheVariants.{First, Second}
use Rattle.meaning.specs.declared.Side.TheVariants.{Generation}
use Rattle.meaning.specs.File.{study_of}
use Rattle.meaning.specs.Grid.{grid_of}
use Rattle.meaning.specs.Sharing.{in_force}
use Rattle.meaning.specs.Figures.{zones, zone_weight}
use Rattle.meaning.specs.Shares.{ChainsEndAtOneCentre}
use Rattle.sharing.proofs.Stands.{one_centre, chain_ends_at_centre}

some_bytes : List ℕ → Bool
some_bytes [] = false
some_bytes (b ∷ bs) = true

-- a file in force is one of edition 2 with bytes in it
pub in_force_lem : (e : Edition) (share : List ℕ) → in_force e share ≡ true → (e ≡ Second) × (share ≢ [])
unfolding in_force some_bytes
in_force_lem First share h = absurd (true≢false (sym h))
in_force_lem Second [] h = absurd (true≢false (sym h))
in_force_lem Second (b ∷ bs) h = (refl, λ e. true≢false (ap some_bytes e))

pub chains_end_at_one_centre : ChainsEndAtOneCentre
chains_end_at_one_centre file runs share a h =
    let f = in_force_lem (study_of file).settings.edition share h in
    let s = a.shared f.0 f.1 in
    let G = grid_of (study_of file) in
    record { one = one_centre share (zones G Generation) (zone_weight G Generation) s.zone; reached = chain_ends_at_centre share (zones G Generation) (zone_weight G Generation) s.zone }
