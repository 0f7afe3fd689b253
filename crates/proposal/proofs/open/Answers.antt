-- `proposal::open` meets its contract: what stops the tables, else what the share file does, else what the proposals do.
use Rattle.std.proofs.Common.{refl, sym, ap₂, ◌∙◌}
use Rattle.meaning.specs.Answers.{yields}
use Rattle.meaning.proofs.Answers.{refuses, let_through, yields_stops, yields_passes, stops_first, passes-first}
use Rattle.tables.proofs.FrameLaws.{long_is}
use Rattle.tables.proofs.Lent.{stopped, given}
use Rattle.proposal.proofs.Opening.{tables_stop, passed_reference, passed_judgeable, rest_decides}
use Rattle.proposal.proofs.open.Goals as goal

pub returns-in_err-open-clause-judged : goal.returns-in_err-open-clause-judged
returns-in_err-open-clause-judged c =
    let opens = rw (long_is c.args.runs.now c.of.ensures) at c.open.ensures.judged in
    let s = stopped _ _ (refuses c.from_residual.ensures) (tables_stop _ _ c.args.share.now opens (sym (yields_stops _ c.in_err-open.was))) in
    record { judged = s.0; possible = s.1 }

pub returns-in_err-open-clause-columns : goal.returns-in_err-open-clause-columns
returns-in_err-open-clause-columns c = rw (long_is c.args.runs.now c.of.ensures) at c.open.ensures.columns

pub returns-in_err-share_stage-clause-judged : goal.returns-in_err-share_stage-clause-judged
returns-in_err-share_stage-clause-judged c =
    let opens = rw (long_is c.args.runs.now c.of.ensures) at c.open.ensures.judged in
    let read = sym (yields_passes _ c.in_ok-open.was) in
    let rest = rest_decides _ _ _ opens read (stops_first _ c.share_stage.ensures c.in_err-share_stage.was) in
    let s = stopped _ _ (refuses c.from_residual-in_err-share_stage.ensures) rest in
    record { judged = s.0; possible = s.1 }

pub returns-in_err-share_stage-clause-columns : goal.returns-in_err-share_stage-clause-columns
returns-in_err-share_stage-clause-columns c = rw (long_is c.args.runs.now c.of.ensures) at c.open.ensures.columns

pub case_of-k-requires : goal.case_of-k-requires
case_of-k-requires c =
    passed_reference _ _ c.args.share.now (rw (long_is c.args.runs.now c.of.ensures) at c.open.ensures.judged) (sym (yields_passes _ c.in_ok-open.was))

pub proposals-requires : goal.proposals-requires
proposals-requires c =
    rw c.case_of-k.ensures
    (passed_judgeable _ _ c.args.share.now (rw (long_is c.args.runs.now c.of.ensures) at c.open.ensures.judged) (sym (yields_passes _ c.in_ok-open.was)))

pub returns-clause-judged : goal.returns-clause-judged
returns-clause-judged c =
    let opens = rw (long_is c.args.runs.now c.of.ensures) at c.open.ensures.judged in
    let read = sym (yields_passes _ c.in_ok-open.was) in
    let rest = rest_decides _ _ _ opens read (passes-first _ c.share_stage.ensures c.in_ok-share_stage.was (rw (← c.case_of-k.ensures) c.proposals.ensures)) in
    record {
      judged = ap₂ yields (sym rest) (let_through _ _ opens.judged read).1;
      possible = given _ _ (rw read at opens.possible);
    }

pub returns-clause-columns : goal.returns-clause-columns
returns-clause-columns c = rw (long_is c.args.runs.now c.of.ensures) at c.open.ensures.columns
