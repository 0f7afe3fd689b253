-- `output::with_runs` meets its contract: what the entry settles is printed.
use mathlib.Core.Path.{◌≡◌, subst}
use mathlib.Core.List.{List}
use Prim.Native.Nat.{ℕ}
use Rattle.meaning.specs.Study.{Runs}
use Rattle.meaning.specs.Outcome.{Settled, settle}
use Rattle.meaning.specs.Calls.{Prints}
use Rattle.output.proofs.Printing.{zeros, refusal_printed, sheet_printed}
use Rattle.output.proofs.with_runs.Goals as goal

pub returns-in-Err : goal.returns-in-Err
returns-in-Err c =
    let settled = subst (λ (r : Runs). ◌≡◌ {A = Settled} (record { answer = c.write.result; buffer = c.write.new.out }) (settle c.args.file.now r c.args.share.now zeros)) c.requires c.write.ensures.contract in
    subst (λ (t : List ℕ). Prints t c.refused.result) (refusal_printed c.args.file.now c.args.share.now c.write.result _ settled c.in-Err.is) c.refused.ensures

pub returns-in-Ok : goal.returns-in-Ok
returns-in-Ok c =
    let settled = subst (λ (r : Runs). ◌≡◌ {A = Settled} (record { answer = c.write.result; buffer = c.write.new.out }) (settle c.args.file.now r c.args.share.now zeros)) c.requires c.write.ensures.contract in
    sheet_printed c.args.file.now c.args.share.now c.write.result _ settled c.in-Ok.is
