use mathlib.Core.Path.{sym, ◌∙◌}
use native.Mathlib.Omega.{arith}
use Rattle.names.proofs.NameLaws.{left_on, left_done}
use Rattle.names.proofs.padding.padded.Goals as goal

pub loop-b-preserved : goal.loop-b-preserved
loop-b-preserved c =
    c.loop-b.invariant ∙ left_on _ c.loop-b.b-index c.loop-b.good c.loop-b.named _ (omega arith) c.is_name_byte-named.ensures

pub returns : goal.returns
returns c = sym (c.loop-b.invariant ∙ left_done _ c.loop-b.b-index c.loop-b.good c.loop-b.named (omega arith))
