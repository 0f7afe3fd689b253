use mathlib.Core.Path.{◌∙◌, ap₂}
use mathlib.Core.Bool.{◌&&◌}
use Rattle.names.proofs.NameLaws.{formed_is}
use Rattle.names.proofs.padding.formed.Goals as goal

pub returns : goal.returns
returns c = ap₂ ◌&&◌ c.is_name_byte.ensures c.padded.ensures ∙ formed_is c.args.name.now c.requires
