-- The statements of specs/Statements.antt, proved.
use native.Mathlib.Omega.{arith}
use Rattle.integers.proofs.Div.{near_apart}
use Rattle.network.specs.Statements.{FlowsClose, PotentialsClose, DirectionsAgree, MetresAgree, BackgroundsAgree}
use Rattle.network.proofs.Close.{flows_near, potentials_near}
use Rattle.network.proofs.Bands.{direction_same, counted_same}

pub flows_close : FlowsClose
flows_close N M M' u f u' f' two c h = omega (arith, flows_near two c h)

pub potentials_close : PotentialsClose
potentials_close N M M' u f u' f' two v walk = omega (arith, potentials_near two v walk)

pub directions_agree : DirectionsAgree
directions_agree N u f u' f' two c h = direction_same (f c) (f' c) (omega (arith, flows_near two c h))

pub metres_agree : MetresAgree
metres_agree N u f u' f' two v walk k k' near near' = near_apart (u v) (u' v) 1000000000 k k' near near' (omega (arith, potentials_near two v walk))

pub backgrounds_agree : BackgroundsAgree
backgrounds_agree N u f u' f' w g w' g' two more c h =
    counted_same (f c) (g c) (f' c) (g' c) (omega (arith, flows_near two c h)) (omega (arith, flows_near more c h))
