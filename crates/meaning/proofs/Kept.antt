-- "One input, one result": the entry's contract allows one answer, and one buffer afterwards. A contract that says less is refused here.
use mathlib.Core.Path.{◌≡◌, sym, ◌∙◌, ap, ap₂}
use mathlib.Core.List.{List}
use Prim.Native.Nat.{ℕ}
use Rattle.meaning.specs.Study.{Runs}
use Rattle.meaning.specs.Outcome.{Settled, settle}
use Rattle.meaning.specs.Calls.{Call, Kept}

-- two calls that were lent the same
pub record SameLent (c d : Call) : Type 0 where
  pub file : c.file ≡ d.file
  pub runs : c.runs ≡ d.runs
  pub share : c.share ≡ d.share
  pub before : c.before ≡ d.before

same_settled : (c d : Call) → SameLent c d → settle c.file c.runs c.share c.before ≡ settle d.file d.runs d.share d.before
same_settled c d s =
    ap₂ (λ (f : List ℕ) (r : Runs). settle f r c.share c.before) s.file s.runs ∙ ap₂ (λ (h b : List ℕ). settle d.file d.runs h b) s.share s.before

pub one_result : (c d : Call) → Kept c → Kept d → SameLent c d → (c.answer ≡ d.answer) × (c.after ≡ d.after)
one_result c d kept kept' s =
    let e = kept.contract ∙ same_settled c d s ∙ sym kept'.contract in
    (ap (λ (x : Settled). x.answer) e, ap (λ (x : Settled). x.buffer) e)
