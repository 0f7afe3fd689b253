-- A percentage is at most 100.
use Rattle.std.specs.Prelude.{◌≤◌}
use Rattle.meaning.specs.declared.Running.{Running}
use Rattle.meaning.specs.declared.Running.TheVariants.{Fixed, Variable}

abbrev pub Percentage : Running → Type 0
Percentage (Fixed percent) = percent ≤ 100
Percentage Variable = Unit {0}
