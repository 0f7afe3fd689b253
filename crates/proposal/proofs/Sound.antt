-- Sound tables give what the judges ask of a case.
use mathlib.Core.Path.{◌≡◌}
use mathlib.Core.List.{List}
use Prim.Native.Nat.{ℕ, ◌+◌, ◌≤◌, ◌<◌}
use native.Mathlib.Omega.{arith}
use lib.IntN.{ℤ}
use lib.ListN.{length}
use Rattle.meaning.specs.Columns.{number_at}
use Rattle.meaning.specs.Study.{Study}
use Rattle.meaning.specs.Grid.{grid_of}
use Rattle.meaning.specs.Network.{network_of}
use Rattle.meaning.specs.Conditions.{SoundTables}
use Rattle.flows.specs.declared.Case.{Case}
use Rattle.flows.specs.Flows.{circuits_in}
use Rattle.flows.proofs.Circuits.{circuits_are}
use Rattle.proposal.specs.Case.{Judgeable}
use Rattle.proposal.proofs.Told.{Told}

module _ (S : Study) (k : Case) (t : Told (grid_of S) k) (sound : SoundTables S) (few : length S.nodes ≤ 256) (fewer : length S.circuits ≤ 512) where
  nodes_in_lem : k.nodes ≡ length S.nodes
  unfolding network_of grid_of
  nodes_in_lem = t.network.ends.nodes

  pub circuits_in_lem : (run : List ℤ) → length run ≡ length S.nodes + length S.circuits → circuits_in k.nodes (length run) ≡ length S.circuits
  circuits_in_lem run e = circuits_are k.nodes (length S.circuits) (length run) fewer (omega (arith, nodes_in_lem))

  x_small_lem : (c : ℕ) → c < length S.circuits → number_at k.x c ≤ 10000
  unfolding network_of grid_of
  x_small_lem c h = omega (arith, t.network.x c h, (sound.circuits c h).x.most)

  pub judgeable : (run : List ℤ) → length run ≡ length S.nodes + length S.circuits → Judgeable k run
  judgeable run e = record {
    based = record { nodes = omega (arith, nodes_in_lem); long = omega (arith, nodes_in_lem, circuits_in_lem run e) };
    x_small = λ c h. x_small_lem c (omega (arith, circuits_in_lem run e));
  }
