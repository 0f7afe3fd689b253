use mathlib.Core.Path.{sym, ◌∙◌}
use native.Mathlib.Omega.{arith}
use Rattle.integers.proofs.Machine.{Back, back}
use Rattle.rests.proofs.Laws.{says_in_range, less_in, less_out}
use Rattle.rests.proofs.less.Goals as goal
use Rattle.rests.proofs.less.Goals.{After-takes}

pub taken-requires : goal.taken-requires
taken-requires c =
    let read : Back c.args.tariff.0 = back c.args.tariff.0 (omega arith) in
    simp read ((says_in_range _ _ _ _ _).0 (sym (simp read at c.takes.ensures) ∙ c.if-takes.true))

pub returns-then-takes : goal.returns-then-takes
returns-then-takes c =
    let a = c.args in
    let read : Back c.args.tariff.0 = back c.args.tariff.0 (omega arith) in
    simp read at c.taken.ensures ∙ sym (less_in a.rest a.payers.0 a.tariff.0 a.kw.0 (sym (simp read at c.takes.ensures) ∙ c.if-takes.true))

pub returns : goal.returns
returns c =
    let a = c.args in
    let read : Back c.args.tariff.0 = back c.args.tariff.0 (omega arith) in
    sym (less_out a.rest a.payers.0 a.tariff.0 a.kw.0 (sym (simp read at c.takes.ensures) ∙ c.if-takes.false))
