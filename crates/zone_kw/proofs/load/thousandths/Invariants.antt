use mathlib.Core.Path.{◌≡◌}
use Rattle.meaning.specs.Rows.{rows}
use Rattle.zone_kw.specs.Load.{loaded}
use Rattle.zone_kw.proofs.load.thousandths.Given as goal

abbrev pub invariant-loop-t : goal.invariant-loop-t
invariant-loop-t l = l.sums ≡ rows 32 (loaded l.nodes l.zone l.by_type l.factors l.t)
