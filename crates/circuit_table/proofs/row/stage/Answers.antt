use native.Mathlib.Omega.{arith}
use Rattle.circuit_table.proofs.CircuitLaws.{circuit_unsound, circuits_sound}
use Rattle.circuit_table.proofs.row.stage.Goals as goal

pub returns-in-Some : goal.returns-in-Some
returns-in-Some c = circuit_unsound _ c.requires c.in-Some.ensures.1 c.in-Some.ensures.0

pub returns-in-None : goal.returns-in-None
returns-in-None c = circuits_sound _ c.requires c.in-None.ensures (omega arith)
