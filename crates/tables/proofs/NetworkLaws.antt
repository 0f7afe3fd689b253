-- The columns which were read are the network of the study's grid: what refusal 6 walks, and what refusals 8 to 10 judge.
use mathlib.Core.Path.{◌≡◌, refl}
use Prim.Native.Nat.{◌-◌, ◌≤◌}
use native.Mathlib.Omega.{arith}
use lib.ListN.{length}
use Rattle.meaning.specs.Study.{Study}
use Rattle.meaning.specs.Columns.{network_in}
use Rattle.meaning.specs.Grid.{grid_of}
use Rattle.meaning.specs.Network.{network_of}
use Rattle.meaning.proofs.Rows.{rows_at}
use Rattle.meaning.proofs.Networks.{SameNetwork}
use Rattle.layout.specs.Frame.{counts_of}
use Rattle.circuit_table.specs.Columns.{circuits_of}
use Rattle.tables.specs.declared.Opened.{Opened}
use Rattle.tables.proofs.ReadLaws.{StudyColumns}

-- a column has room for 512 circuits
pub columns_network : {S : Study} {o : Opened} → StudyColumns S o → length S.circuits ≤ 512
    → SameNetwork (network_in o.counts.nodes o.counts.circuits (o.settings.reference - 1) o.circuits.first o.circuits.second o.circuits.x) (network_of (grid_of S))
unfolding counts_of circuits_of network_of grid_of
columns_network {S} {o} t few =
    let m : o.counts.circuits ≡ length S.circuits = rw t.counts refl in
    record {
      ends = record {
        nodes = rw t.counts refl;
        circuits = m;
        reference = rw t.settings refl;
        first = λ c h. rw t.circuits (rows_at 0 512 _ c (omega (arith, m)));
        second = λ c h. rw t.circuits (rows_at 0 512 _ c (omega (arith, m)));
      };
      x = λ c h. rw t.circuits (rows_at 0 512 _ c (omega (arith, m)));
    }
