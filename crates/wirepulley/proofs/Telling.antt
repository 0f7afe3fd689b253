-- What tells an answer tells one that it equals.
use mathlib.Core.Path.{◌≡◌, subst}
use mathlib.Core.List.{List}
use Prim.Native.Nat.{ℕ}
use Rattle.meaning.specs.Answers.{Answer}
use Rattle.meaning.specs.Calls.{Tells}

pub tells_same : {after : List ℕ} {r : ℕ} (a b : Answer) → a ≡ b → Tells a after r → Tells b after r
tells_same {after} {r} a b e t = subst (λ (x : Answer). Tells x after r) e t
