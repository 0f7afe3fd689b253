use mathlib.Core.Path.{◌≡◌}
use Rattle.meaning.specs.Columns.{column}
use Rattle.zone_kw.proofs.LoadLaws.{more}
use Rattle.zone_kw.proofs.load.with_type.Given as goal

abbrev pub invariant-loop-k : goal.invariant-loop-k
invariant-loop-k l = l.all ≡ column 0 32 l.k (more l.sums l.plant l.kw l.factor-2)
