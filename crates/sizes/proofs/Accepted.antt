-- An accepted case has its potentials in range and at most 256 nodes, so its sheet fits the program's buffer.
use Prim.Native.Nat.{ℕ, ◌≤◌}
use native.Mathlib.Omega.{arith}
use mathlib.Core.List.{List}
use lib.ListN.{length}
use Rattle.meaning.specs.Study.{Study, Runs}
use Rattle.meaning.specs.File.{study_of}
use Rattle.meaning.specs.Grid.{grid_of}
use Rattle.meaning.specs.Network.{network_of}
use Rattle.meaning.specs.declared.System.{System}
use Rattle.meaning.specs.Editions.{HasSystem}
use Rattle.meaning.specs.Systems.{proposed}
use Rattle.meaning.specs.Conditions.{SolvesSystem, Acceptable}
use Rattle.meaning.specs.Demands.{SheetsFit}
use Rattle.meaning.proofs.Frame.{counts}
use Rattle.sizes.specs.Bounds.{PotentialsInRange}
use Rattle.sizes.proofs.SheetLength.{sheet_fits}

pub solved_in_range : (S : Study) (runs : Runs)
    → ((system : System) → HasSystem S.settings.edition system → SolvesSystem (network_of (grid_of S)) (proposed (grid_of S) runs system))
    → PotentialsInRange S.settings.edition (length S.nodes) runs
unfolding grid_of network_of proposed
solved_in_range S runs solved = λ system h. (solved system h).potentials

few_nodes : (file : List ℕ) (runs : Runs) (share : List ℕ) → Acceptable file runs share → length (study_of file).nodes ≤ 256
few_nodes file runs share a = omega (arith, (counts file runs a.whole).0, a.whole.nodes.most)

pub sheets_fit : SheetsFit
unfolding grid_of
sheets_fit file runs share a =
    sheet_fits (study_of file) a.study (few_nodes file runs share a) runs (solved_in_range (study_of file) runs a.solved) share a.shared
