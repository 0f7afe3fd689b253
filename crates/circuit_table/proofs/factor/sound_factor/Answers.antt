use mathlib.Core.Path.{refl}
use Rattle.meaning.specs.Rows.{◌between◌and◌}
use Rattle.meaning.specs.Tables.{sound_factor}
use Rattle.circuit_table.proofs.factor.sound_factor.Goals as goal

pub returns : goal.returns
unfolding sound_factor ◌between◌and◌
returns c = rw c.new_voltage.ensures refl
