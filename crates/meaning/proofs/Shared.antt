-- 02, request 6: 16 judges its conditions, and where no file is in force nothing is shared.
use mathlib.Core.Path.{◌≡◌, refl, sym, ◌∙◌, ap}
use mathlib.Core.Logic.{◌⊎◌, inl, inr, ◌↔◌, ◌≢◌}
use mathlib.Core.Bool.{Bool, true, false, cond, true≢false}
use mathlib.Core.List.{List, [], ◌∷◌}
use mathlib.Core.Option.{none}
use Prim.Native.Nat.{ℕ, zero, suc, ◌+◌, ◌*◌, ◌-◌, ◌≤◌, ◌<◌}
use native.Mathlib.Omega.{arith}
use native.Mathlib.Decide.{ℕ_discrete}
use lib.IntN.{pos}
use lib.ListN.{length}
use Rattle.integers.proofs.Core.{Z}
use Rattle.integers.proofs.Sum.{Σ-none}
use Rattle.meaning.specs.declared.Edition.{Edition}
use Rattle.meaning.specs.declared.Edition.TheVariants.{First, Second}
use Rattle.meaning.specs.declared.Background.{Background}
use Rattle.meaning.specs.declared.Background.TheVariants.{YearRound, Peak}
use Rattle.meaning.specs.declared.Side.{Side}
use Rattle.meaning.specs.declared.Side.TheVariants.{Generation, Demand}
use Rattle.meaning.specs.declared.Form.{Form}
use Rattle.meaning.specs.declared.Form.TheVariants.{OneBackground, TwoBackgrounds}
use Rattle.meaning.specs.declared.Form.TheVariants as form
use Rattle.std.specs.Prelude.{Ok}
use Rattle.meaning.specs.declared.Refusal.TheVariants.{BadShare}
use Rattle.meaning.specs.Answers.{when}
use Rattle.meaning.specs.Editions.{by_edition}
use Rattle.meaning.specs.Study.{Kw, Runs}
use Rattle.meaning.specs.Grid.{Grid}
use Rattle.meaning.specs.Sharing.{in_force, next_inward, load_factor, Passes, names_one_with_tec, names_with_tec, is_centre, second_centre, ended, sound_zone, sound_frame, share_file_stage, not_shared_metres, shared_metres, shared_kw, sharing_on}
use Rattle.meaning.specs.Charging.{Priced, own_metres, shared_income}
use Rattle.meaning.specs.Figures.{zones, zone_weight, share_stage, sharing, form_of, priced}
use Rattle.meaning.specs.Charging as charging
use Rattle.meaning.specs.Conditions.{SoundShareFrame, Centre, SoundZone, SoundShare}
use Rattle.meaning.specs.Refusals.{AllMet, whole, each_row, only_second, only_of, share_order}
use Rattle.meaning.proofs.Says.{Says, says_as, ◌also◌, ◌either◌, says_not, says_le, says_eq, says_any, says_all}
use Rattle.meaning.proofs.Systems.{first≢second}
use Rattle.meaning.proofs.Order.{Judges, ◌before◌, judges_none, judges_whole, judges_rows}
use Rattle.meaning.proofs.Chains.{Inward, next_inward_lem, says_ends}

-- ---- 16
either_or : {A B : Type 0} → Dec A → (A ⊎ B) ↔ ((A → ⊥) → B)
either_or d = (there, back d)
  where
    there : {A B : Type 0} → A ⊎ B → (A → ⊥) → B
    there (inl a) f = absurd (f a)
    there (inr b) f = b

    back : {A B : Type 0} → Dec A → ((A → ⊥) → B) → A ⊎ B
    back (yes a) f = inl a
    back (no n) f = inr (f n)

module _ (zones : ℕ) (tec : ℕ → Kw) (next : ℕ → ℕ) where
  says_centre : (z : ℕ) → Says (is_centre zones tec next z) (Centre zones tec next z)
  unfolding is_centre
  says_centre z = says_as (says_le also says_eq) (λ t. record { kilowatts = t.0; names_none = t.1 }, λ r. (r.kilowatts, r.names_none))

  says_one : (z : ℕ) → Says (names_one_with_tec zones tec next z) (next z ≢ 0 → (next z ≤ zones) × (1 ≤ tec (next z)))
  unfolding names_one_with_tec
  says_one z = says_as (says_eq either (says_le also says_le)) (either_or (ℕ_discrete (next z) 0))

  says_own : (z : ℕ) → Says (names_with_tec zones tec next z) (next z ≢ 0 → 1 ≤ tec z)
  unfolding names_with_tec
  says_own z = says_as (says_eq either says_le) (either_or (ℕ_discrete (next z) 0))

  says_second : (z : ℕ) → Says (second_centre zones tec next z) (Centre zones tec next z × ((j : ℕ) × (j < z - 1) × Centre zones tec next (suc j)))
  unfolding second_centre
  says_second z = says_centre z also says_any (z - 1) (λ j. says_centre (suc j))

  module _ (i : Inward zones next) where
    says_ended : (z : ℕ) → Says (ended zones tec next z) (Passes next z 0)
    unfolding ended
    says_ended z = says_ends i z

    pub says_sound : (z : ℕ) → Says (sound_zone zones tec next z) (SoundZone zones tec next z)
    unfolding sound_zone
    says_sound z = says_as (says_one z also says_own z also says_not (says_second z) also says_ended z) (sound, back)
      where
        Four : Type 0
        Four =
            (((next z ≢ 0 → (next z ≤ zones) × (1 ≤ tec (next z))) × (next z ≢ 0 → 1 ≤ tec z))
            × (Centre zones tec next z × ((j : ℕ) × (j < z - 1) × Centre zones tec next (suc j)) → ⊥)) × Passes next z 0

        lower : (w : ℕ) → 1 ≤ w → w < z → Centre zones tec next w → (j : ℕ) × (j < z - 1) × Centre zones tec next (suc j)
        lower zero h l c = absurd (omega arith)
        lower (suc j) h l c = (j, omega arith, c)

        sound : Four → SoundZone zones tec next z
        sound f = record { names = f.0.0.0; own = f.0.0.1; only = λ c w h l d. f.0.1 (c, lower w h l d); ends = f.1 }

        back : SoundZone zones tec next z → Four
        back s = (((s.names, s.own), λ p. s.only p.0 (suc p.1.0) (omega arith) (omega (arith, p.1.1)) p.1.2), s.ends)

says_frame : (share : List ℕ) (zones : ℕ) → Says (sound_frame share zones) (SoundShareFrame share zones)
unfolding sound_frame
says_frame share zones =
    says_as (says_eq also says_all 7 (λ t. says_le {m = load_factor share zones (suc t)} {n = 1000}))
    (λ f. record { long = f.0; factors = λ t a b. at f t a b }, λ s. (s.long, λ t h. s.factors (suc t) (omega arith) h))
  where
    at : (length share ≡ 4 * (zones + 7)) × ((t : ℕ) → t < 7 → load_factor share zones (suc t) ≤ 1000) → (t : ℕ) → 1 ≤ t → t ≤ 7 → load_factor share zones t ≤ 1000
    at f zero a b = absurd (omega arith)
    at f (suc t) a b = f.1 t b

judge_file_of_shares : (share : List ℕ) (zones : ℕ) (tec : ℕ → Kw) → Judges (share_file_stage share zones tec)
    (whole (SoundShareFrame share zones) (BadShare 0) ∷ each_row zones (λ i. SoundZone zones tec (next_inward share zones) (suc i)) BadShare ∷ [])
unfolding share_file_stage
judge_file_of_shares share zones tec =
    judges_whole (BadShare 0) (says_frame share zones) before λ _. judges_rows zones BadShare (λ i. says_sound zones tec (next_inward share zones) (next_inward_lem share zones) (suc i))

pub judge_share : (G : Grid) (share : List ℕ) → Judges (share_stage G share) (share_order G share)
unfolding share_stage when in_force
judge_share G share = go G.settings.edition share
  where
    go : (e : Edition) (bytes : List ℕ)
        → Judges (when (in_force e bytes) (share_file_stage share (zones G Generation) (zone_weight G Generation)))
        (only_second e (only_of bytes (whole (SoundShareFrame share (zones G Generation)) (BadShare 0)
        ∷ each_row (zones G Generation) (λ i. SoundZone (zones G Generation) (zone_weight G Generation) (next_inward share (zones G Generation)) (suc i)) BadShare ∷ [])))
    go First bytes = judges_none
    go Second [] = judges_none
    go Second (b ∷ bs) = judge_file_of_shares share (zones G Generation) (zone_weight G Generation)

-- the conditions of 16 are met where a file in force is sound
pub share_met : (G : Grid) (share : List ℕ) → AllMet (share_order G share) ↔ (G.settings.edition ≡ Second → share ≢ [] → SoundShare G share)
share_met G share = (λ m second full. there G.settings.edition share second full m, λ f. back G.settings.edition share refl refl f)
  where
    Zone : ℕ → Type 0
    Zone z = SoundZone (zones G Generation) (zone_weight G Generation) (next_inward share (zones G Generation)) z

    sound : SoundShareFrame share (zones G Generation) → ((i : ℕ) → i < zones G Generation → Zone (suc i)) → SoundShare G share
    sound f h = record { frame = f; zone = each }
      where
        each : (z : ℕ) → 1 ≤ z → z ≤ zones G Generation → Zone z
        each zero a b = absurd (omega arith)
        each (suc i) a b = h i b

    there : (e : Edition) (bytes : List ℕ) → e ≡ Second → bytes ≢ []
        → AllMet (only_second e (only_of bytes (whole (SoundShareFrame share (zones G Generation)) (BadShare 0) ∷ each_row (zones G Generation) (λ i. Zone (suc i)) BadShare ∷ [])))
        → SoundShare G share
    there First bytes second full m = absurd (first≢second second)
    there Second [] second full m = absurd (full refl)
    there Second (b ∷ bs) second full m = sound m.0 m.1.0

    some_bytes : {b : ℕ} {bs : List ℕ} → (b ∷ bs) ≢ []
    some_bytes e = true≢false (ap full e)
      where
        full : List ℕ → Bool
        full [] = false
        full (c ∷ cs) = true

    back : (e : Edition) (bytes : List ℕ) → G.settings.edition ≡ e → share ≡ bytes → (G.settings.edition ≡ Second → share ≢ [] → SoundShare G share)
        → AllMet (only_second e (only_of bytes (whole (SoundShareFrame share (zones G Generation)) (BadShare 0) ∷ each_row (zones G Generation) (λ i. Zone (suc i)) BadShare ∷ [])))
    back First bytes p q f = tt
    back Second [] p q f = tt
    back Second (b ∷ bs) p q f = let s = f p (λ e. some_bytes (sym q ∙ e)) in (s.frame, (λ i h. s.zone (suc i) (omega arith) h, tt))

-- ---- where no file is in force
pub not_in_first : {e : Edition} (share : List ℕ) → e ≡ First → in_force e share ≡ false
unfolding in_force
not_in_first share first = ap (λ (e : Edition). in_force e share) first

pub none_in_force : (e : Edition) → in_force e [] ≡ false
unfolding in_force
none_in_force First = refl
none_in_force Second = refl

module _ (G : Grid) (share : List ℕ) (whole : in_force G.settings.edition share ≡ false) where
  pub unshared : sharing G share ≡ none
  unfolding sharing
  unshared = rw whole refl

  pub unshared_form : (side : Side) → form_of G share side ≡ by_edition OneBackground TwoBackgrounds G.settings.edition
  unfolding form_of
  unshared_form Generation = rw whole refl
  unshared_form Demand = refl

  pub unshared_stage : share_stage G share ≡ Ok tt
  unfolding share_stage when
  unshared_stage = rw whole refl

  -- on either side
  pub unshared_on : (runs : Runs) (side : Side) → (priced G runs share side).sharing ≡ none
  unfolding charging.priced sharing_on
  unshared_on runs Generation = unshared
  unshared_on runs Demand = refl

-- demand shares nothing
pub demand_unshared : (G : Grid) (runs : Runs) (share : List ℕ) → (priced G runs share Demand).sharing ≡ none
unfolding charging.priced sharing_on
demand_unshared G runs share = refl

module _ (S : Priced) (nothing : S.sharing ≡ none) where
  pub own_whole : (b : Background) (zone : ℕ) → own_metres S b zone ≡ (S.zones b).metres zone
  unfolding own_metres not_shared_metres
  own_whole YearRound zone = rw nothing refl
  own_whole Peak zone = refl

  pub no_shared_metres : (zone : ℕ) → charging.shared_of S zone ≡ pos 0
  unfolding charging.shared_of shared_metres
  no_shared_metres zone = rw nothing refl

  pub no_shared_income : shared_income S ≡ pos 0
  unfolding shared_kw
  no_shared_income = Σ-none (S.zones YearRound).count _ (λ k h. rw nothing (simp Z (omega arith)))

pub own_peak : (S : Priced) (zone : ℕ) → own_metres S Peak zone ≡ (S.zones Peak).metres zone
unfolding own_metres
own_peak S zone = refl

-- ---- the form of a line and its edition
pub shared_form : (G : Grid) (share : List ℕ) → in_force G.settings.edition share ≡ true → form_of G share Generation ≡ form.Sharing
unfolding form_of
shared_form G share h = rw h refl

pub demand_form : (G : Grid) (share : List ℕ) → form_of G share Demand ≡ by_edition OneBackground TwoBackgrounds G.settings.edition
unfolding form_of
demand_form G share = refl

abbrev pub form_edition : Form → Edition
form_edition OneBackground = First
form_edition TwoBackgrounds = Second
form_edition form.Sharing = Second

pub form_edition_lem : (G : Grid) (share : List ℕ) (side : Side) → form_edition (form_of G share side) ≡ G.settings.edition
unfolding form_of in_force
form_edition_lem G share Generation = go G.settings.edition share
  where
    go : (e : Edition) (bytes : List ℕ) → form_edition (cond (in_force e bytes) form.Sharing (by_edition OneBackground TwoBackgrounds e)) ≡ e
    go First bytes = refl
    go Second [] = refl
    go Second (b ∷ bs) = refl
form_edition_lem G share Demand = go G.settings.edition
  where
    go : (e : Edition) → form_edition (by_edition OneBackground TwoBackgrounds e) ≡ e
    go First = refl
    go Second = refl
