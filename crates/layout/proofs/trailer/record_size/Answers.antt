use mathlib.Core.Path.{sym, ◌∙◌, ap}
use native.Mathlib.Omega.{arith}
use Rattle.meaning.specs.File.{record_size}
use Rattle.layout.proofs.FileLaws.{solution_size}
use Rattle.layout.proofs.trailer.record_size.Goals as goal

pub returns-in-0 : goal.returns-in-0
unfolding record_size
returns-in-0 c = sym (ap (record_size c.args.version) c.in-0.is)

pub returns-in-1 : goal.returns-in-1
unfolding record_size
returns-in-1 c = sym (ap (record_size c.args.version) c.in-1.is)

pub returns-in-2 : goal.returns-in-2
unfolding record_size
returns-in-2 c = c.circuit_size.ensures ∙ sym (ap (record_size c.args.version) c.in-2.is)

pub returns-in-3 : goal.returns-in-3
unfolding record_size
returns-in-3 c = sym (ap (record_size c.args.version) c.in-3.is)

pub returns-in_default : goal.returns-in_default
returns-in_default c = solution_size _ _ (omega arith) (omega arith)
