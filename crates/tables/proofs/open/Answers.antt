-- `tables::open` meets its contract.
use Rattle.std.proofs.Common.{sym, ap, ap₂, ◌∙◌}
use Rattle.meaning.specs.Answers.{Judgement, yields, ◌or_else◌}
use Rattle.meaning.proofs.Answers.{refuses}
use Rattle.layout.specs.Readable.{readable}
use Rattle.tables.specs.Order.{rows_after}
use Rattle.tables.proofs.OrderLaws.{rows_stop}
use Rattle.tables.proofs.ReadLaws.{rows_read, columns_same}
use Rattle.tables.proofs.GridLaws.{grid_decides}
use Rattle.tables.proofs.Lent.{stopped, given}
use Rattle.tables.proofs.open.Goals as goal

pub returns-in_err-tables-clause-judged : goal.returns-in_err-tables-clause-judged
returns-in_err-tables-clause-judged c =
    let rows = c.tables.ensures.rows ∙ ap (λ (j : Judgement). j or_else rows_after (readable c.args.file.now)) c.frame.ensures in
    let s = stopped _ _ (refuses c.from_residual.ensures) (rows_stop _ _ rows c.in_err-tables.was) in
    record { judged = s.0; possible = s.1 }

pub returns-in_err-tables-clause-columns : goal.returns-in_err-tables-clause-columns
returns-in_err-tables-clause-columns c = rw c.frame.ensures at c.tables.ensures.columns

pub returns-clause-judged : goal.returns-clause-judged
returns-clause-judged c =
    let rows = c.tables.ensures.rows ∙ ap (λ (j : Judgement). j or_else rows_after (readable c.args.file.now)) c.frame.ensures in
    let columns = rw c.frame.ensures at c.tables.ensures.columns in
    let read = rows_read columns (sym rows ∙ c.in_ok-tables.was) in
    record {
      judged = ap₂ yields (sym (grid_decides _ columns rows c.in_ok-tables.was c.grid_stage.ensures)) (columns_same read);
      possible = given _ _ read.possible;
    }

pub returns-clause-columns : goal.returns-clause-columns
returns-clause-columns c = rw c.frame.ensures at c.tables.ensures.columns
