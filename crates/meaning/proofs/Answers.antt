-- The laws of a chain of stages: it passes exactly when each stage passes, and else stops where the first stage stops.
use mathlib.Core.Path.{◌≡◌, refl, sym, ◌∙◌, ap}
use mathlib.Core.Logic.{◌↔◌}
use mathlib.Core.Bool.{Bool, true, false, not, ◌&&◌, true≢false}
use mathlib.Core.Option.{Option, none, some, none-ne-some}
use Prim.Native.Nat.{ℕ, ◌<◌}
use Rattle.meaning.specs.Rows.{failing}
use Rattle.meaning.specs.declared.Refusal.{Refusal}
use Rattle.meaning.specs.Answers.{Judgement}
use Rattle.std.specs.Prelude.{Result, Ok, Err, IsErr, IsErrAnd}
use Rattle.meaning.specs.Answers.{◌or_else◌, yields, unless, at}
use Rattle.meaning.proofs.Rows.{lowest_none, lowest_none_elim}
use Rattle.meaning.proofs.Says.{Says}

-- a stage that passes does not stop
stops : Judgement → Bool
stops (Ok _) = false
stops (Err r) = true

pub stops≢passes : {r : Refusal} → ◌≡◌ {A = Judgement} (Err r) (Ok tt) → ⊥
unfolding stops
stops≢passes e = true≢false (ap stops e)

-- what a stage stops with; any refusal where it passes
cause : Refusal → Judgement → Refusal
cause r (Ok _) = r
cause r (Err q) = q

pub stops_same : {q r : Refusal} → ◌≡◌ {A = Judgement} (Err q) (Err r) → q ≡ r
unfolding cause
stops_same {q} e = ap (cause q) e

-- a chain whose first stage passes, or stops
pub or_else_passes : {a : Judgement} (b : Judgement) → a ≡ Ok tt → a or_else b ≡ b
unfolding ◌or_else◌
or_else_passes b e = rw e refl

pub or_else_stops : {a : Judgement} {r : Refusal} (b : Judgement) → a ≡ Err r → a or_else b ≡ a
unfolding ◌or_else◌
or_else_stops b e = rw e refl

-- what comes after a stage matters only where it passes
pub or_else_same : (a : Judgement) {b c : Judgement} → (a ≡ Ok tt → b ≡ c) → a or_else b ≡ a or_else c
unfolding ◌or_else◌
or_else_same (Ok _) h = h refl
or_else_same (Err r) h = refl

-- the same of what code made of the first stage: where it stops that is the chain's, where it passes what is left decides
pub stops_first : {a x : Judgement} {r : Refusal} (b : Judgement) → x ≡ a → x ≡ Err r → Err r ≡ a or_else b
stops_first b e s = sym s ∙ e ∙ sym (or_else_stops b (sym e ∙ s))

pub passes-first : {a x y : Judgement} (b : Judgement) → x ≡ a → x ≡ Ok tt → y ≡ b → y ≡ a or_else b
passes-first b e s f = f ∙ sym (or_else_passes b (sym e ∙ s))

-- ---- what `?` answers of a refusal
pub refuses : {A : Type 0} {x : Result A Refusal} {r : Refusal} → IsErr x × IsErrAnd x (λ (q : Refusal). q ≡ r) → x ≡ Err r
refuses {x = Ok a} h = absurd (true≢false (sym h.0))
refuses {x = Err q} h = ap Err h.1

-- ---- what a stage lets through
pub yields_stops : {A : Type 0} {j : Judgement} {r : Refusal} (a : A) → j ≡ Err r → ◌≡◌ {A = Result A Refusal} (Err r) (yields j a)
unfolding yields
yields_stops a e = rw e refl

pub yields_passes : {A : Type 0} {j : Judgement} (a : A) → j ≡ Ok tt → ◌≡◌ {A = Result A Refusal} (Ok a) (yields j a)
unfolding yields
yields_passes a e = rw e refl

-- and what is known of it where it was let through, and where it was not
pub let_through : {A : Type 0} {x : Result A Refusal} {b : A} (j : Judgement) (a : A) → x ≡ yields j a → x ≡ Ok b → (j ≡ Ok tt) × (b ≡ a)
unfolding yields
let_through (Ok _) a e f = (refl, cc)
let_through (Err r) a e f = absurd (cc)

pub held_back : {A : Type 0} {x : Result A Refusal} {r : Refusal} (j : Judgement) (a : A) → x ≡ yields j a → x ≡ Err r → j ≡ Err r
unfolding yields
held_back (Ok _) a e f = absurd (cc)
held_back (Err q) a e f = cc

-- nothing comes after the last stage
pub or_else_none : (a : Judgement) → a or_else (Ok tt) ≡ a
unfolding ◌or_else◌
or_else_none (Ok _) = refl
or_else_none (Err r) = refl

pub passes_or_else : (a b : Judgement) → (a or_else b ≡ Ok tt) ↔ (a ≡ Ok tt) × (b ≡ Ok tt)
unfolding ◌or_else◌
passes_or_else (Ok _) b = (λ h. (refl, h), λ h. h.1)
passes_or_else (Err r) b = (λ h. absurd (stops≢passes h), λ h. h.0)

pub or_else_assoc : (a b c : Judgement) → (a or_else b) or_else c ≡ a or_else b or_else c
unfolding ◌or_else◌
or_else_assoc (Ok _) b c = refl
or_else_assoc (Err r) b c = refl

-- two tests of one refusal
pub unless-both : (a b : Bool) (r : Refusal) → unless a r or_else unless b r ≡ unless (a && b) r
unfolding ◌or_else◌ unless
unless-both true b r = refl
unless-both false b r = refl

-- a whole test
pub passes-unless : (b : Bool) (r : Refusal) → (unless b r ≡ Ok tt) ↔ (b ≡ true)
unfolding unless
passes-unless true r = (λ h. refl, λ h. refl)
passes-unless false r = (λ h. absurd (stops≢passes h), λ h. absurd (true≢false (sym h)))

-- a test of each row
pub passes_at : (o : Option ℕ) (r : ℕ → Refusal) → (at o r ≡ Ok tt) ↔ (o ≡ none)
unfolding at
passes_at none r = (λ h. refl, λ h. refl)
passes_at (some i) r = (λ h. absurd (stops≢passes h), λ h. absurd (none-ne-some _ (sym h)))

pub not_false : (b : Bool) → not b ≡ false → b ≡ true
not_false true e = refl
not_false false e = sym e

pub passes-rows : {test : ℕ → Bool} {P : ℕ → Type 0} (n : ℕ) (r : ℕ → Refusal) → ((i : ℕ) → Says (test i) (P i))
    → (at (failing test n) r ≡ Ok tt) ↔ ((i : ℕ) → i < n → P i)
passes-rows {test} n r h = (
  λ p i k. (h i).0 (not_false (test i) (lowest_none_elim _ n ((passes_at _ r).0 p) i k)),
  λ f. (passes_at _ r).1 (lowest_none _ n (λ i k. ap not ((h i).1 (f i k)))),
)
