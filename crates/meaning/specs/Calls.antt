-- 01, What each entry settles: the contracts of the entries, which their code cites. A call is what a caller lent, what it got, and its buffers afterwards.
use Rattle.std.specs.Prelude.{◌≡◌, List, [], ◌∷◌, ◌++◌, ℕ, ◌-◌, length, replicate}
use Rattle.meaning.specs.declared.Values.{Values}
use Rattle.meaning.specs.Answers.{Answer}
use Rattle.meaning.specs.declared.Printed.{Printed}
use Rattle.meaning.specs.Answers.{values}
use Rattle.meaning.specs.Study.{Runs}
use Rattle.meaning.specs.Outcome.{Settled, settle}

-- ---- the library's entry, `sheet::write`
pub record Call : Type 0 where
  pub file : List ℕ
  pub runs : Runs
  pub share : List ℕ
  pub before : List ℕ
  pub answer : Answer
  pub after : List ℕ

-- its contract: the answer, and the buffer afterwards, are what 01 settles
pub record Kept (c : Call) : Type 0 where
  pub contract : ◌≡◌ {A = Settled} (record { answer = c.answer; buffer = c.after }) (settle c.file c.runs c.share c.before)

-- ---- the program: a text at the front of its buffer, and zeros behind it
pub record Prints (text : List ℕ) (r : Printed) : Type 0 where
  pub long : r.length ≡ length text
  pub bytes : r.bytes ≡ text ++ replicate (17408 - length text) 0

-- ---- the exported entries, which answer in four numbers
-- number, system, row and length, in this order
abbrev pub four : Values → List ℕ
four v = v.number ∷ v.system ∷ v.row ∷ v.length ∷ []

-- a result, and the lent numbers afterwards, tell an answer
pub record Tells (a : Answer) (after : List ℕ) (result : ℕ) : Type 0 where
  pub number : result ≡ (values a).number
  pub numbers : after ≡ four (values a)

-- a call of `wirepulley_write`
pub record ToldCall : Type 0 where
  pub file : List ℕ
  pub runs : Runs
  pub share : List ℕ
  pub before : List ℕ
  pub result : ℕ
  pub after : List ℕ
  pub numbers : List ℕ

-- its contract
pub record ToldKept (c : ToldCall) : Type 0 where
  pub answer : Tells (settle c.file c.runs c.share c.before).answer c.numbers c.result
  pub buffer : c.after ≡ (settle c.file c.runs c.share c.before).buffer
