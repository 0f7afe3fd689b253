-- 01, What stops a case: number, system and row of each refusal, and which of two stages stops a case first.
use Rattle.std.specs.Prelude.{Bool, true, false, ℕ, suc}
use Rattle.std.proofs.Math.Option.{Option, none, some}
use Rattle.meaning.specs.declared.Edition.{Edition}
use Rattle.meaning.specs.declared.Edition.TheVariants.{First, Second}
use Rattle.meaning.specs.declared.System.TheVariants.{Base}
use Rattle.meaning.specs.Editions.{system_number}
use Rattle.meaning.specs.declared.Values.{Values}
use Rattle.meaning.specs.declared.Refusal.{Refusal}
use Rattle.meaning.specs.declared.Refusal.TheVariants.{BadFile, BadSetting, BadNode, BadCircuit, BadStation, Unreached, BadTotal, BadNumber, Unbalanced, MissesTooHigh, DirectionInDoubt, ShortBuffer, NoChargeableTec, Unscalable, BackgroundInDoubt, BadShare}
use Rattle.std.specs.Prelude.{Result, Ok, Err, ⊤}

-- what a stage of 01's order makes of a case: it goes on to the next stage, or it is refused
abbrev pub Judgement : Type 0
Judgement = Result ⊤ Refusal

-- what an entry answers: accepted with the length of the sheet, or refused
abbrev pub Answer : Type 0
Answer = Result ℕ Refusal

-- "Every refusal carries sheet length 0"
unfoldable pub refusal : (number system row : ℕ) → Values
refusal number system row = record { number = number; system = system; row = row; length = 0 }

-- the table of 01, row by row, and 02's numbers; "Acceptance carries the sheet's length"
unfoldable pub values : Answer → Values
values (Ok n) = record { number = 0; system = 0; row = 0; length = n }
values (Err BadFile) = refusal 1 0 0
values (Err BadSetting) = refusal 2 0 0
values (Err (BadNode r)) = refusal 3 0 r
values (Err (BadCircuit r)) = refusal 4 0 r
values (Err (BadStation r)) = refusal 5 0 r
values (Err (Unreached r)) = refusal 6 0 r
values (Err BadTotal) = refusal 7 0 0
values (Err (BadNumber s r)) = refusal 8 (system_number s) r
values (Err (Unbalanced s r)) = refusal 9 (system_number s) r
values (Err (MissesTooHigh s)) = refusal 10 (system_number s) 0
values (Err (DirectionInDoubt b r)) = refusal 11 (system_number (Base b)) r
values (Err ShortBuffer) = refusal 12 0 0
values (Err NoChargeableTec) = refusal 13 0 0
values (Err Unscalable) = refusal 14 0 0
values (Err (BackgroundInDoubt r)) = refusal 15 0 r
values (Err (BadShare r)) = refusal 16 0 r

-- what stops a case first: the first stage if it stops it, else the second
infixr 20 ◌or_else◌
unfoldable pub ◌or_else◌ : Judgement → Judgement → Judgement
(Ok _) or_else b = b
Err r or_else b = Err r

-- what a stage lets through: the value where it passes, else its refusal
unfoldable pub yields : {A : Type 0} → Judgement → A → Result A Refusal
yields (Ok _) a = Ok a
yields (Err r) a = Err r

-- refused unless the test holds
unfoldable pub unless : Bool → Refusal → Judgement
unless true r = Ok tt
unless false r = Err r

-- refused at the row that was found; row i counts as i + 1 in print
unfoldable pub at : Option ℕ → (ℕ → Refusal) → Judgement
at none r = Ok tt
at (some i) r = Err (r (suc i))

-- 02, request 5: what edition 2 alone asks
unfoldable pub in_second : Edition → Judgement → Judgement
in_second First j = Ok tt
in_second Second j = j

-- 02, request 6: what is asked only where it is so
unfoldable pub when : Bool → Judgement → Judgement
when false j = Ok tt
when true j = j
