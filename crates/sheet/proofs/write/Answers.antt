-- `sheet::write` meets its contract: a refusal, or what the text of its figures settles.
use Rattle.sheet.proofs.Settles.{refusal_settled, sheet_settled}
use Rattle.sheet.proofs.write.Goals as goal

pub returns-in-Err : goal.returns-in-Err
returns-in-Err c = record { contract = refusal_settled _ _ _ c.charge.ensures c.in-Err.is c.args.out.now }

pub returns-in-Ok : goal.returns-in-Ok
returns-in-Ok c = record { contract = sheet_settled _ _ _ c.charge.ensures c.in-Ok.is c.args.out.now _ c.written.ensures }
