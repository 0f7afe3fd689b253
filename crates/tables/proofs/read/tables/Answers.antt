-- `tables::read::tables` meets its contract.
use Rattle.std.proofs.Common.{refl, sym, ◌∙◌}
use Rattle.meaning.specs.Answers.{◌or_else◌}
use Rattle.meaning.proofs.Answers.{refuses, or_else_passes, or_else_stops}
use Rattle.tables.specs.Order.{rows_after}
use Rattle.tables.proofs.ReadLaws.{nodes_stop, circuits_stop, all_read}
use Rattle.tables.proofs.read.tables.Goals as goal

pub returns-in_err-frame-clause-rows : goal.returns-in_err-frame-clause-rows
unfolding ◌or_else◌
returns-in_err-frame-clause-rows c = refuses c.from_residual.ensures ∙ rw (c.in_err-frame.was) refl

pub returns-in_err-frame-clause-columns : goal.returns-in_err-frame-clause-columns
returns-in_err-frame-clause-columns c = nodes_stop c.counts-room.ensures c.settings-room.ensures (or_else_stops _ c.in_err-frame.was ∙ c.in_err-frame.was) refl refl refl

pub returns-in_err-judge-clause-rows : goal.returns-in_err-judge-clause-rows
unfolding rows_after ◌or_else◌
returns-in_err-judge-clause-rows c = refuses c.from_residual-in_err-judge.ensures ∙ rw (c.in_ok-frame.was, ← c.judge.ensures, c.in_err-judge.was) refl

pub returns-in_err-judge-clause-columns : goal.returns-in_err-judge-clause-columns
returns-in_err-judge-clause-columns c =
    nodes_stop c.counts-room.ensures c.settings-room.ensures (or_else_passes _ c.in_ok-frame.was ∙ sym c.judge.ensures ∙ c.in_err-judge.was) refl refl refl

pub returns-in_err-circuits-clause-rows : goal.returns-in_err-circuits-clause-rows
unfolding rows_after ◌or_else◌
returns-in_err-circuits-clause-rows c =
    refuses c.from_residual-in_err-circuits.ensures ∙ rw (c.in_ok-frame.was, ← c.judge.ensures, c.in_ok-judge.was, ← c.judge-circuits.ensures.judged, c.in_err-circuits.was) refl

pub returns-in_err-circuits-clause-columns : goal.returns-in_err-circuits-clause-columns
returns-in_err-circuits-clause-columns c =
    let nodes = or_else_passes _ c.in_ok-frame.was ∙ sym c.judge.ensures ∙ c.in_ok-judge.was in
    circuits_stop c.counts-room.ensures c.settings-room.ensures nodes (or_else_passes _ nodes ∙ sym c.judge-circuits.ensures.judged ∙ c.in_err-circuits.was)
    c.columns-room.ensures c.judge-circuits.ensures.read refl

pub returns-clause-rows : goal.returns-clause-rows
unfolding rows_after ◌or_else◌
returns-clause-rows c =
    c.judge-2.ensures.judged ∙ rw (c.in_ok-frame.was, ← c.judge.ensures, c.in_ok-judge.was, ← c.judge-circuits.ensures.judged, c.in_ok-circuits.was) refl

pub returns-clause-columns : goal.returns-clause-columns
returns-clause-columns c =
    let nodes = or_else_passes _ c.in_ok-frame.was ∙ sym c.judge.ensures ∙ c.in_ok-judge.was in
    all_read c.counts-room.ensures c.settings-room.ensures nodes (or_else_passes _ nodes ∙ sym c.judge-circuits.ensures.judged ∙ c.in_ok-circuits.was)
    c.columns-room.ensures c.judge-circuits.ensures.read c.judge-2.ensures.summed c.judge-2.ensures.possible
