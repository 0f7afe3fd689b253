use mathlib.Core.Path.{◌∙◌}
use Rattle.chains.proofs.Laws.{factor_at}
use Rattle.chains.proofs.frame.load_factor.Goals as goal

pub returns : goal.returns
returns c = let a = c.args in c.u32_at.ensures.value ∙ factor_at a.share.now a.zones a.t
