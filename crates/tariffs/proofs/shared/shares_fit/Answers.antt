use Rattle.meaning.proofs.Says.{agree, says_as}
use Rattle.tariffs.proofs.Laws.{shares_say, each_within}
use Rattle.tariffs.proofs.shared.shares_fit.Goals as goal

pub returns : goal.returns
returns c =
    let s = c.args.shares.now in
    agree _ _ (says_as (rw c.shared_zones.ensures.zones at c.each_within.ensures) (each_within s c.args.count c.args.payers.0)) (shares_say s c.args.count c.args.payers.0)
