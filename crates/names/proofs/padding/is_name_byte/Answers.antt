use mathlib.Core.Path.{refl}
use Rattle.meaning.specs.Rows.{◌between◌and◌}
use Rattle.meaning.specs.Name.{name_byte}
use Rattle.names.proofs.padding.is_name_byte.Goals as goal

pub returns : goal.returns
unfolding name_byte ◌between◌and◌
returns c = rw (c.is_ascii_uppercase.ensures.value, c.is_ascii_digit.ensures.value) refl
