-- Arrays of 32 as the file's numbers, and loops that walk a chain.
use mathlib.Core.Path.{◌≡◌, refl, sym, ◌∙◌, ap, fun_ext}
use mathlib.Core.Bool.{Bool, true, false, not, cond, ◌&&◌, ◌||◌}
use mathlib.Core.Option.{Option}
use mathlib.Core.List.{List, [], ◌∷◌}
use Prim.Native.Nat.{ℕ, zero, suc, ◌+◌, ◌*◌, ◌-◌, ◌≤◌, ◌<◌, min}
use native.Mathlib.Omega.{arith}
use native.Mathlib.Numerals.{add-one}
use native.Mathlib.Decide.{dec_lt, dec_le}
use borrow.Author.Tests.{lt-ltb, le-ltb}
use lib.Dec.{eqb, leb, ltb}
use lib.ListN.{length, replicate}
use Rattle.std.specs.Prelude.{Some, None}
use Rattle.meaning.specs.declared.Edition.{Edition}
use Rattle.meaning.specs.declared.Edition.TheVariants.{First, Second}
use Rattle.meaning.specs.declared.Kw.{Kw}
use Rattle.std.specs.Prelude.{Ok, Err}
use Rattle.meaning.specs.declared.Refusal.TheVariants.{BadShare}
use Rattle.meaning.specs.Rows.{◌between◌and◌, rows, found, any, failing}
use Rattle.meaning.specs.Answers.{◌or_else◌, unless, at}
use Rattle.meaning.specs.File.{u32}
use Rattle.meaning.specs.Columns.{column, number_at}
use Rattle.meaning.specs.Sharing.{in_force, next_inward, load_factor, after, passes, names_one_with_tec, names_with_tec, is_centre, second_centre, ended, sound_zone, sound_frame, share_file_stage}
use Rattle.meaning.proofs.Rows.{Passed, passed_all, any_intro, rows_at, rows_same, rows_none, lowest_same}
use Rattle.meaning.proofs.Says.{says_le, says_eq, says_between}
use Rattle.meaning.proofs.Chains.{Inward, next_inward_lem, after_more, ended_later}
use Rattle.chains.specs.Searches.{answered}
use Rattle.chains.proofs.Searches.{answered_some, answered_none}
use Rattle.chains.specs.Columns.{of_zone, next_in, zone_kw, inward_of, factors_of, stage_in}

never : {b : Bool} → (b ≡ true → ⊥) → b ≡ false
never {b = true} f = absurd (f refl)
never {b = false} f = refl

-- ---- a zone's row of an array
-- a quantity that zones 1 to 32 alone have
pub record OnlyZones {A : Type 0} (nothing : A) (f : ℕ → A) : Type 0 where
  pub none : f 0 ≡ nothing
  pub past : (z : ℕ) → 32 < z → f z ≡ nothing

module _ {A : Type 0} (nothing : A) (row : ℕ → A) where
  pub zone_in : (z : ℕ) → 1 ≤ z → z ≤ 32 → row (z - 1) ≡ of_zone nothing row z
  unfolding of_zone
  zone_in z h l = rw ((says_between {x = z} {low = 1} {high = 32}).1 (record { least = h; most = l })) refl

  pub zone_out : (z : ℕ) → (1 ≤ z → z ≤ 32 → ⊥) → of_zone nothing row z ≡ nothing
  unfolding of_zone
  zone_out z h = rw (never {b = z between 1 and 32} (λ e. let r = says_between.0 e in h r.least r.most)) refl

  pub zone_row : (i : ℕ) → i < 32 → of_zone nothing row (suc i) ≡ row i
  zone_row i h = sym (zone_in (suc i) (omega arith) h) ∙ ap row (omega arith)

  pub zone_none : of_zone nothing row 0 ≡ nothing
  zone_none = zone_out 0 (λ h l. omega arith)

  pub zone_past : (z : ℕ) → 32 < z → of_zone nothing row z ≡ nothing
  zone_past z h = zone_out z (λ k l. omega arith)

  -- what is read of a row
  pub zone_read : {B : Type 0} (f : A → B) (z : ℕ) → f (of_zone nothing row z) ≡ of_zone (f nothing) (λ i. f (row i)) z
  unfolding of_zone
  zone_read f z = go (z between 1 and 32)
    where
      go : (b : Bool) → f (cond b (row (z - 1)) nothing) ≡ cond b (f (row (z - 1))) (f nothing)
      go true = refl
      go false = refl

  -- what holds of the rows, and of nothing, holds of each zone
  pub zone_holds : (P : A → Type 0) → ((i : ℕ) → i < 32 → P (row i)) → P nothing → (z : ℕ) → P (of_zone nothing row z)
  zone_holds P each none zero = rw zone_none none
  zone_holds P each none (suc i) = go (dec_lt i 32)
    where
      go : Dec (i < 32) → P (of_zone nothing row (suc i))
      go (yes h) = rw (zone_row i h) (each i h)
      go (no h) = rw (zone_past (suc i) (omega arith)) none

  -- a quantity whose rows these are
  pub zone_is : {f : ℕ → A} → OnlyZones nothing f → ((i : ℕ) → i < 32 → row i ≡ f (suc i)) → of_zone nothing row ≡ f
  zone_is {f = f} only h = fun_ext go
    where
      go : (z : ℕ) → of_zone nothing row z ≡ f z
      go zero = zone_none ∙ sym only.none
      go (suc i) = other (dec_lt i 32)
        where
          other : Dec (i < 32) → of_zone nothing row (suc i) ≡ f (suc i)
          other (yes l) = zone_row i l ∙ h i l
          other (no l) = zone_past (suc i) (omega arith) ∙ sym (only.past (suc i) (omega arith))

-- ---- the file's numbers are those of the arrays
pub same_next : (share : List ℕ) (zones : ℕ) → zones ≤ 32 → next_in (inward_of share zones) ≡ next_inward share zones
unfolding inward_of
same_next share zones h =
    let i = next_inward_lem share zones in
    zone_is 0 _ (record { none = i.none; past = λ z l. i.past z (omega arith) }) (λ k l. rows_at 0 32 _ k l)

pub same_factor : (share : List ℕ) (zones t : ℕ) → zones ≤ 32 → t < 7 → number_at (factors_of share zones) t ≡ load_factor share zones (suc t)
unfolding factors_of
same_factor share zones t h l = rows_at 0 7 _ t l ∙ rw ((says_le {m = zones} {n = 32}).1 h) refl

pub stage_is : (share : List ℕ) (zones : ℕ) (tec : List Kw) → zones ≤ 32 → stage_in share zones tec ≡ share_file_stage share zones (zone_kw tec)
unfolding stage_in
stage_is share zones tec h = rw ((says_le {m = zones} {n = 32}).1 h) refl

-- ---- whether the file counts
pub not_in_first : {e : Edition} (share : List ℕ) → e ≡ First → false ≡ in_force e share
unfolding in_force
not_in_first share first = rw first refl

pub in_second : {e : Edition} (share : List ℕ) → e ≡ Second → not (eqb (length share) 0) ≡ in_force e share
unfolding in_force
in_second [] second = rw second refl
in_second (b ∷ bs) second = rw (second, never {b = eqb (length (b ∷ bs)) 0} (λ e. omega (arith, (says_eq {m = length (b ∷ bs)} {n = 0}).0 e))) refl

-- ---- loops that fill an array
pub inward_filled : (share : List ℕ) (zones : ℕ) → column 0 32 zones (λ i. u32 share (4 * i)) ≡ inward_of share zones
unfolding column inward_of next_inward
inward_filled share zones = rows_same 32 _ _ (λ i l. one i (dec_lt i zones))
  where
    one : (i : ℕ) → Dec (i < zones) → cond (ltb i zones) (u32 share (4 * i)) 0 ≡ cond (suc i between 1 and zones) (u32 share (4 * (suc i - 1))) 0
    one i (yes l) =
        simp (lt-ltb i zones l, (says_between {x = suc i} {low = 1} {high = zones}).1 (record { least = omega arith; most = l }))
        (ap (λ (n : ℕ). u32 share (4 * n)) (omega arith))
    one i (no l) = simp (le-ltb i zones (omega arith), never {b = suc i between 1 and zones} (λ e. l (says_between.0 e).most))

-- the load factors; of none where the zones are too many
pub factors_read : (share : List ℕ) (zones : ℕ) → zones ≤ 32 → rows 7 (λ t. load_factor share zones (suc t)) ≡ factors_of share zones
unfolding factors_of
factors_read share zones h = rw ((says_le {m = zones} {n = 32}).1 h) refl

pub factors_none : (share : List ℕ) (zones : ℕ) → 32 < zones → replicate 7 0 ≡ factors_of share zones
unfolding factors_of
factors_none share zones h = rows_none 7 _ 0 (λ t l. rw (never {b = leb zones 32} (λ e. omega (arith, (says_le {m = zones} {n = 32}).0 e))) refl)

-- ---- loops that walk a chain
pub after_on : (f : ℕ → ℕ) (k z : ℕ) {here more : ℕ} → here ≡ after f k z → more ≡ f here → more ≡ after f (k + 1) z
after_on f k z e q = q ∙ ap f e ∙ sym (after_more f k z) ∙ ap (λ (n : ℕ). after f n z) (sym (add-one k))

-- the array's numbers lead from a zone alone
next_in_lem : (next : List ℕ) → Inward 32 (next_in next)
next_in_lem next = record { none = zone_none 0 _; past = zone_past 0 _ }

-- a search that finds, or finds none
pub any_ends : {test : ℕ → Bool} {n : ℕ} → Passed test n → false ≡ any test n
unfolding found
any_ends p = rw (passed_all p) refl

-- the zones passed by k numbers are not b
abbrev pub Before : (next : List ℕ) (z b k : ℕ) → Type 0
Before next z b k = Passed (λ j. eqb (after (next_in next) j z) b) k

module _ (next : List ℕ) (n z b k : ℕ) {here : ℕ} (e : here ≡ after (next_in next) k z) where
  pub passes_here : k ≤ min n 32 → here ≡ b → true ≡ passes (next_in next) (min n 32) z b
  unfolding passes
  passes_here h q = sym (any_intro (λ j. eqb (after (next_in next) j z) b) (suc (min n 32)) k (omega arith) (says_eq.1 (sym e ∙ q)))

  pub here_not : (here ≡ b → ⊥) → eqb (after (next_in next) k z) b ≡ false
  here_not f = never (λ t. f (e ∙ says_eq.0 t))

  -- it has ended: the rest of it is 0
  pub passes_ended : Before next z b k → (here ≡ b → ⊥) → here ≡ 0 → false ≡ passes (next_in next) (min n 32) z b
  unfolding passes
  passes_ended p f q = any_ends (record { none_so_far = λ j h. go j (dec_lt j k) })
    where
      go : (j : ℕ) → Dec (j < k) → eqb (after (next_in next) j z) b ≡ false
      go j (yes h) = p.none_so_far j h
      go j (no h) = never (λ t. f (q ∙ sym (ended_later (next_in_lem next) k j z (omega arith) (sym e ∙ q)) ∙ says_eq.0 t))

pub passes_none : (next : List ℕ) (n z b k : ℕ) → k ≡ suc (min n 32) → Before next z b k → false ≡ passes (next_in next) (min n 32) z b
unfolding passes
passes_none next n z b k e p = any_ends (rw e at p)

-- ---- the frame
pub factor_at : (share : List ℕ) (zones t : ℕ) → u32 share (4 * (zones + t)) ≡ load_factor share zones (suc t)
unfolding load_factor
factor_at share zones t = ap (λ (n : ℕ). u32 share (4 * (zones + n))) (omega arith)

-- ---- the answer
pub stage_out : (share : List ℕ) (zones : ℕ) (tec : List Kw) → 32 < zones → Err (BadShare 0) ≡ stage_in share zones tec
unfolding stage_in
stage_out share zones tec h = rw (never {b = leb zones 32} (λ e. omega (arith, (says_le {m = zones} {n = 32}).0 e))) refl

module _ (share : List ℕ) (zones : ℕ) (tec : List Kw) (h : zones ≤ 32) where
  pub stage_frame : sound_frame share zones ≡ false → Err (BadShare 0) ≡ stage_in share zones tec
  unfolding share_file_stage unless ◌or_else◌
  stage_frame e = sym (stage_is share zones tec h ∙ rw e refl)

  module _ (sound : sound_frame share zones ≡ true) where
    zone_stage : stage_in share zones tec ≡ at (failing (λ i. sound_zone zones (zone_kw tec) (next_in (inward_of share zones)) (suc i)) zones) BadShare
    unfolding share_file_stage unless ◌or_else◌
    zone_stage = stage_is share zones tec h ∙ rw (sound, same_next share zones h) refl

    abbrev found_in : Option ℕ
    found_in = failing (λ i. sound_zone zones (zone_kw tec) (next_in (inward_of share zones)) (suc i)) zones

    pub stage_zone : {i : ℕ} → answered found_in ≡ Some i → Err (BadShare (i + 1)) ≡ stage_in share zones tec
    unfolding at
    stage_zone {i = i} e = sym (zone_stage ∙ rw (answered_some e, add-one i) refl)

    pub stage_passes : answered found_in ≡ None → Ok tt ≡ stage_in share zones tec
    unfolding at
    stage_passes e = sym (zone_stage ∙ rw (answered_none e) refl)

-- ---- 16 asks for the TEC of zones 1 to `zones` alone
module _ (zones : ℕ) (tec other : ℕ → ℕ) (next : ℕ → ℕ) (same : (z : ℕ) → 1 ≤ z → z ≤ zones → tec z ≡ other z) where
  named_same : (z : ℕ) → names_one_with_tec zones tec next z ≡ names_one_with_tec zones other next z
  unfolding names_one_with_tec
  named_same z = go (next z) (dec_le (next z) zones)
    where
      go : (n : ℕ) → Dec (n ≤ zones) → (eqb n 0 || (leb n zones && leb 1 (tec n))) ≡ (eqb n 0 || (leb n zones && leb 1 (other n)))
      go zero d = refl
      go (suc n) (yes h) = rw (same (suc n) (omega arith) h) refl
      go (suc n) (no h) = rw (never {b = leb (suc n) zones} (λ e. h (says_le.0 e))) refl

  centre_same : (z : ℕ) → 1 ≤ z → z ≤ zones → is_centre zones tec next z ≡ is_centre zones other next z
  unfolding is_centre
  centre_same z h l = rw (same z h l) refl

  pub zone_same : (z : ℕ) → 1 ≤ z → z ≤ zones → sound_zone zones tec next z ≡ sound_zone zones other next z
  unfolding sound_zone names_with_tec second_centre ended
  zone_same z h l =
      rw (
        named_same z,
        same z h l,
        centre_same z h l,
        lowest_same (λ i. is_centre zones tec next (suc i)) (λ i. is_centre zones other next (suc i)) (z - 1) (λ i k. centre_same (suc i) (omega arith) (omega arith)),
      ) refl

pub stage_same : (share : List ℕ) (zones : ℕ) (tec other : ℕ → ℕ) → ((z : ℕ) → 1 ≤ z → z ≤ zones → tec z ≡ other z)
    → share_file_stage share zones tec ≡ share_file_stage share zones other
unfolding share_file_stage
stage_same share zones tec other same =
    rw (lowest_same _ _ zones (λ i h. ap not (zone_same zones tec other (next_inward share zones) same (suc i) (omega arith) h))) refl
