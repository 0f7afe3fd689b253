-- One system of two cases: with one network, one supply and one offset, two accepted proposals are close in flows, potentials and metres. Demand 3 and request 12 of 02 rest on it.
use mathlib.Core.Path.{◌≡◌}
use Prim.Native.Nat.{ℕ, ◌≤◌, ◌<◌}
use lib.IntN.{nat_abs, ◌-ℤ◌}
use lib.ListN.{length}
use Rattle.meaning.specs.Study.{Study, Runs}
use Rattle.meaning.specs.declared.System.{System}
use Rattle.meaning.specs.Grid.{Grid, grid_of}
use Rattle.meaning.specs.Network.{Network, network_of}
use Rattle.meaning.specs.Proposal.{potential, flow}
use Rattle.meaning.specs.Systems.{supply, offset, proposed}
use Rattle.meaning.specs.Charging.{metres}
use Rattle.meaning.specs.Conditions.{SoundTables, SolvesSystem}
use Rattle.meaning.specs.Distances.{apart}
use Rattle.meaning.proofs.Mirror.{metres_near}
use Rattle.meaning.proofs.Tables.{placed, rowwise}
use Rattle.network.specs.Statements.{Sound, SolvedTwice}
use Rattle.network.proofs.Theorems.{potentials_close, metres_agree}

-- the network of sound tables
sound_network : (S : Study) → SoundTables S → Sound (network_of (grid_of S))
unfolding network_of grid_of
sound_network S sound =
    let p = placed S (rowwise S sound) in
    record { first = p.first; second = p.second; x = λ c h. (sound.circuits c h).x.least }

-- a system is the same in two cases
pub record OneSystem (G G' : Grid) (runs runs' : Runs) (system : System) : Type 0 where
  pub network : network_of G ≡ network_of G'
  pub supplies : supply G system ≡ supply G' system
  pub offsets : offset G runs system ≡ offset G' runs' system

module _ (S : Study) (sound : SoundTables S) (G' : Grid) (runs runs' : Runs) (system : System) (one : OneSystem (grid_of S) G' runs runs' system)
    (s : SolvesSystem (network_of (grid_of S)) (proposed (grid_of S) runs system)) (s' : SolvesSystem (network_of G') (proposed G' runs' system)) where
  abbrev N : Network
  N = network_of (grid_of S)

  -- solved twice
  pub twice : SolvedTwice N 100000000 100000000 (potential (runs system)) (flow N (runs system)) (potential (runs' system)) (flow N (runs' system))
  unfolding proposed
  twice = record {
    sound = sound_network S sound;
    supply = supply (grid_of S) system;
    offset = offset (grid_of S) runs system;
    once = s.solves;
    again = rw (one.network, one.supplies, one.offsets) s'.solves;
  }

  -- theorem B, with 01's bound on misses
  pub potential_near : (v : ℕ) → v < length S.nodes → nat_abs (potential (runs system) v -ℤ potential (runs' system) v) ≤ 200000000
  potential_near v h = potentials_close _ _ _ _ _ _ _ twice v (sound.reached v h)

  -- and the metre, which is proved nowhere else
  pub metre_near : (v : ℕ) → v < length S.nodes → apart (metres (potential (runs system) v)) (metres (potential (runs' system) v)) ≤ 1
  metre_near v h =
      let z = potential (runs system) v in
      let z' = potential (runs' system) v in
      metres_agree _ _ _ _ _ twice v (sound.reached v h) (metres z) (metres z') (metres_near z) (metres_near z')
