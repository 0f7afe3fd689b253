-- 02, request 6: not-shared and shared metres of a zone, and the kilowatts of the shared tariff. Where nothing is shared, a zone's metres are its zonal ones.
use mathlib.Core.Path.{◌≡◌, refl, sym, ◌∙◌, ap}
use mathlib.Core.Bool.{Bool, true, false, true≢false}
use mathlib.Core.List.{List}
use mathlib.Core.Option.{none}
use Prim.Native.Nat.{ℕ, ◌≤◌}
use native.Mathlib.Nat.{le_trans}
use native.Mathlib.Omega.{arith}
use native.Mathlib.Decide.{dec_le}
use lib.IntN.{nat_abs}
use Rattle.meaning.specs.declared.Edition.{Edition}
use Rattle.meaning.specs.declared.Edition.TheVariants.{First, Second}
use Rattle.meaning.specs.declared.Background.{Background}
use Rattle.meaning.specs.declared.Background.TheVariants.{YearRound, Peak}
use Rattle.meaning.specs.declared.Form.{Form}
use Rattle.meaning.specs.declared.Form.TheVariants.{OneBackground, TwoBackgrounds, Sharing}
use Rattle.meaning.specs.declared.Side.{Side}
use Rattle.meaning.specs.declared.Side.TheVariants.{Generation, Demand}
use Rattle.meaning.specs.Study.{Kw, Metres, Runs}
use Rattle.meaning.specs.Grid.{Grid}
use Rattle.meaning.specs.Sharing.{in_force, next_inward, load_factor, shared_along, not_shared_along, not_shared_metres, shared_metres, shared_kw, sharing_on}
use Rattle.meaning.specs.Charging as charging
use Rattle.meaning.specs.Figures.{zones, zone_paying, sharing, form_of, zonal_metres, own_metres, shared_of, priced, basis}
use Rattle.meaning.specs.Conditions.{SoundShare}
use Rattle.meaning.proofs.Chains.{next_inward_lem}
use Rattle.meaning.proofs.Shared.{none_in_force, unshared_on, demand_unshared, own_whole, no_shared_metres, own_peak}
use Rattle.sharing.proofs.Split.{centre_not_shared}
use Rattle.sharing.proofs.Stands.{shared_stands, not_shared_stands}
use Rattle.sharing.proofs.Loads.{loaded_some}
use Rattle.sizes.specs.Bounds.{ShareSound, own_most, shared_most}

-- a file in force is one of edition 2, and has bytes
in_second : (e : Edition) (share : List ℕ) → in_force e share ≡ true → e ≡ Second
unfolding in_force
in_second First share w = absurd (true≢false (sym w))
in_second Second share w = refl

pub sound_in_force : (G : Grid) (share : List ℕ) → ShareSound G share → in_force G.settings.edition share ≡ true → SoundShare G share
sound_in_force G share sound w = sound (in_second _ share w) (λ e. true≢false (sym w ∙ ap (in_force G.settings.edition) e ∙ none_in_force G.settings.edition))

-- whatever the form, zonal metres are within
own_least : (form : Form) (b : Background) → 10000000 ≤ own_most form b
own_least OneBackground b = omega arith
own_least TwoBackgrounds b = omega arith
own_least Sharing YearRound = omega arith
own_least Sharing Peak = omega arith

-- ---- a file in force: 31 boundaries at most; and what is no zone has none
module _ (G : Grid) (share : List ℕ) (s : SoundShare G share) (few : zones G Generation ≤ 32)
    (low carbon : ℕ → Kw) (metres : ℕ → Metres) (near : (zone : ℕ) → nat_abs (metres zone) ≤ 10000000) where
  abbrev n : ℕ
  n = zones G Generation

  abbrev next : ℕ → ℕ
  next = next_inward share n

  abbrev Parts : ℕ → Type 0
  Parts zone = (nat_abs (shared_along n next low carbon metres zone) ≤ 620000000) × (nat_abs (not_shared_along n next low carbon metres zone) ≤ 630000000)

  pub parts_within : (zone : ℕ) → Parts zone
  parts_within zone = go (dec_le 1 zone) (dec_le zone n)
    where
      alone : next zone ≡ 0 → Parts zone
      alone e = let c = centre_not_shared n next low carbon metres zone e in (rw c.0 (omega arith), rw c.1 (omega (arith, near zone)))

      go : Dec (1 ≤ zone) → Dec (zone ≤ n) → Parts zone
      go (yes a) (yes b) = (shared_stands share n _ s.zone low carbon metres near few zone a b, not_shared_stands share n _ s.zone low carbon metres near few zone a b)
      go (yes a) (no b) = alone ((next_inward_lem share n).past zone (omega arith))
      go (no a) b = alone (let e : zone ≡ 0 = omega arith in rw e (next_inward_lem share n).none)

-- ---- a case, by its zonal metres
module _ (G : Grid) (runs : Runs) (share : List ℕ) where
  -- peak shares nothing
  pub own_at_peak : (side : Side) (zone : ℕ) → nat_abs (zonal_metres G runs Peak side zone) ≤ 10000000 → nat_abs (own_metres G runs share Peak side zone) ≤ own_most (form_of G share side) Peak
  unfolding charging.priced basis
  own_at_peak side zone h = rw (own_peak (priced G runs share side) zone) (le_trans h (own_least (form_of G share side) Peak))

  module _ (few : zones G Generation ≤ 32) (sound : ShareSound G share) where
    module _ (near : (side : Side) (zone : ℕ) → nat_abs (zonal_metres G runs YearRound side zone) ≤ 10000000) where
      abbrev Within : Side → ℕ → Type 0
      Within side zone = (nat_abs (shared_of G runs share side zone) ≤ shared_most (form_of G share side)) × (nat_abs (own_metres G runs share YearRound side zone) ≤ own_most (form_of G share side) YearRound)

      unshared : (side : Side) → (priced G runs share side).sharing ≡ none → (zone : ℕ) → Within side zone
      unfolding charging.priced basis
      unshared side nothing zone = (
        rw (no_shared_metres (priced G runs share side) nothing zone) (omega arith),
        rw (own_whole (priced G runs share side) nothing YearRound zone) (le_trans (near side zone) (own_least (form_of G share side) YearRound)),
      )

      in_force_lem : in_force G.settings.edition share ≡ true → (zone : ℕ) → Within Generation zone
      unfolding charging.own_metres charging.shared_of charging.priced sharing_on sharing not_shared_metres shared_metres form_of basis
      in_force_lem w zone = rw w (parts_within G share (sound_in_force G share sound w) few _ _ (zonal_metres G runs YearRound Generation) (near Generation) zone)

      pub year_round_within : (side : Side) (zone : ℕ) → Within side zone
      year_round_within Generation zone = go (in_force G.settings.edition share) refl
        where
          go : (t : Bool) → in_force G.settings.edition share ≡ t → Within Generation zone
          go true w = in_force_lem w zone
          go false w = unshared Generation (unshared_on G share w runs Generation) zone
      year_round_within Demand zone = unshared Demand (demand_unshared G runs share) zone

    -- the shared tariff is charged on some of the kilowatts that pay
    pub shared_kw_lem : (side : Side) (zone : ℕ) → shared_kw (priced G runs share side).sharing zone ≤ zone_paying G side zone
    unfolding charging.priced sharing_on sharing shared_kw
    shared_kw_lem Generation zone = go (in_force G.settings.edition share) refl
      where
        go : (t : Bool) → in_force G.settings.edition share ≡ t → shared_kw (priced G runs share Generation).sharing zone ≤ zone_paying G Generation zone
        go true w = rw w (loaded_some G zone (load_factor share (zones G Generation)) (sound_in_force G share sound w).frame.factors)
        go false w = rw w (omega arith)
    shared_kw_lem Demand zone = omega arith
