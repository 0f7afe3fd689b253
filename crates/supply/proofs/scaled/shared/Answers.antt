use native.Mathlib.Omega.{arith}
use Rattle.supply.proofs.Shares.{none_shared}
use Rattle.supply.proofs.scaled.shared.Goals as goal

pub returns-then-demand-eq0 : goal.returns-then-demand-eq0
returns-then-demand-eq0 c = let a = c.args in none_shared a.n a.tec.now a.demand c.if-demand-eq0.true

pub scaled-requires : goal.scaled-requires
scaled-requires c =
    let s = c.requires in
    record {
      nodes = s.nodes;
      all = s.all;
      least = omega (arith, s.enough);
      most = s.most;
      enough = s.enough;
    }
