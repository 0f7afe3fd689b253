-- 01's table tells its refusals apart: number, system and row are of one refusal alone.
use mathlib.Core.Path.{◌≡◌, refl, sym, ◌∙◌, ap}
use mathlib.Core.Logic.{◌≢◌}
use mathlib.Core.List.{[], ◌∷◌}
use Prim.Native.Nat.{ℕ}
use native.Mathlib.Omega.{arith}
use lib.ListN.{get_or}
use Rattle.meaning.specs.declared.Background.{Background}
use Rattle.meaning.specs.declared.Background.TheVariants.{YearRound, Peak}
use Rattle.meaning.specs.declared.System.{System}
use Rattle.meaning.specs.declared.System.TheVariants.{Base, Wider, Local}
use Rattle.meaning.specs.declared.Refusal.{Refusal}
use Rattle.meaning.specs.declared.Refusal.TheVariants.{BadFile, BadSetting, BadNode, BadCircuit, BadStation, Unreached, BadTotal, BadNumber, Unbalanced, MissesTooHigh, DirectionInDoubt, ShortBuffer, NoChargeableTec, Unscalable, BackgroundInDoubt, BadShare}
use Rattle.std.specs.Prelude.{Err}
use Rattle.meaning.specs.Answers.{refusal, values}
use Rattle.meaning.specs.Editions.{system_number}

-- the refusal of a number, a system and a row
system_of : ℕ → System
system_of n = get_or (Local ∷ Base YearRound ∷ Wider YearRound ∷ Local ∷ Base Peak ∷ Wider Peak ∷ []) n Local

system_told : (s : System) → system_of (system_number s) ≡ s
unfolding system_number system_of
system_told (Base YearRound) = refl
system_told (Wider YearRound) = refl
system_told Local = refl
system_told (Base Peak) = refl
system_told (Wider Peak) = refl

-- the background of a base system
background_of : System → Background
background_of (Base b) = b
background_of (Wider b) = b
background_of Local = YearRound

refusal_of : (number system row : ℕ) → Refusal
refusal_of number system row =
    let s = system_of system in
    get_or (
    BadFile ∷ BadFile ∷ BadSetting ∷ BadNode row ∷ BadCircuit row ∷ BadStation row ∷ Unreached row ∷ BadTotal ∷ BadNumber s row ∷ Unbalanced s row
    ∷ MissesTooHigh s ∷ DirectionInDoubt (background_of s) row ∷ ShortBuffer ∷ NoChargeableTec ∷ Unscalable ∷ BackgroundInDoubt row ∷ BadShare row ∷ []) number BadFile

told : (r : Refusal) → refusal_of (values (Err r)).number (values (Err r)).system (values (Err r)).row ≡ r
unfolding refusal_of background_of values refusal
told BadFile = refl
told BadSetting = refl
told (BadNode i) = refl
told (BadCircuit i) = refl
told (BadStation i) = refl
told (Unreached i) = refl
told BadTotal = refl
told (BadNumber s i) = ap (λ (t : System). BadNumber t i) (system_told s)
told (Unbalanced s i) = ap (λ (t : System). Unbalanced t i) (system_told s)
told (MissesTooHigh s) = ap MissesTooHigh (system_told s)
told (DirectionInDoubt b i) = ap (λ (t : System). DirectionInDoubt (background_of t) i) (system_told (Base b))
told ShortBuffer = refl
told NoChargeableTec = refl
told Unscalable = refl
told (BackgroundInDoubt i) = refl
told (BadShare i) = refl

pub values_tell : (q r : Refusal) → (values (Err q)).number ≡ (values (Err r)).number → (values (Err q)).system ≡ (values (Err r)).system
    → (values (Err q)).row ≡ (values (Err r)).row → q ≡ r
values_tell q r n s i =
    sym (told q)
    ∙ ap (λ (k : ℕ). refusal_of k (values (Err q)).system (values (Err q)).row) n
    ∙ ap (λ (k : ℕ). refusal_of (values (Err r)).number k (values (Err q)).row) s
    ∙ ap (λ (k : ℕ). refusal_of (values (Err r)).number (values (Err r)).system k) i
    ∙ told r

-- no refusal has number 0, which is accepted's
pub number_positive : (r : Refusal) → (values (Err r)).number ≢ 0
unfolding refusal_of values refusal
number_positive r e =
    let h : ◌≡◌ {A = ℕ} 1 0 = sym (ap (λ (q : Refusal). (values (Err q)).number) is_first) ∙ e in
    omega (arith, h)
  where
    is_first : r ≡ BadFile
    is_first = sym (told r) ∙ ap (λ (k : ℕ). refusal_of k (values (Err r)).system (values (Err r)).row) e
