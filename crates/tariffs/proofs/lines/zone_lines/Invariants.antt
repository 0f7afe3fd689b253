-- The invariant: a column of the zones passed.
use mathlib.Core.Path.{◌≡◌}
use mathlib.Core.List.{List}
use Prim.Native.Nat.{ℕ}
use Rattle.meaning.specs.declared.MicroPerKw.{MicroPerKw}
use Rattle.meaning.specs.declared.WiderFigures.{WiderFigures}
use Rattle.meaning.specs.declared.SharedFigures.{SharedFigures}
use Rattle.meaning.specs.declared.ZoneFigures.{ZoneFigures}
use Rattle.meaning.specs.Columns.{column, no_line}
use Rattle.zones.specs.declared.ZoneSums.{ZoneSums}
use Rattle.tariffs.specs.Sides.{sums_in, wider_at, shared_at, line_from}
use Rattle.tariffs.proofs.lines.zone_lines.Given as goal

abbrev pub mine : MicroPerKw → List ZoneSums → (year_round peak : List WiderFigures) → List SharedFigures → ℕ → ZoneFigures
mine residual sums y p s k = line_from (sums_in sums k).weight (wider_at y k) (wider_at p k) (shared_at s k) residual

abbrev pub invariant-loop-k : goal.invariant-loop-k
invariant-loop-k l = l.all ≡ column no_line 32 l.k (mine l.residual l.sums l.year_round l.peak l.shared)
