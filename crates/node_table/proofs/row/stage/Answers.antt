use native.Mathlib.Omega.{arith}
use Rattle.meaning.proofs.First.{first_lowest}
use Rattle.node_table.proofs.NodeLaws.{node_unsound, node_repeated, nodes_sound}
use Rattle.node_table.proofs.row.stage.Goals as goal
use Rattle.node_table.proofs.row.stage.Goals.{in_default-via-in-Some+else-row-repeated, in_default-via-in_default}

pub returns-in-Some : goal.returns-in-Some
returns-in-Some c = node_unsound _ c.requires.0 c.requires.1 c.in-Some.ensures.1 (first_lowest c.repeated-repeated.ensures) (omega arith)

pub returns-in_default : goal.returns-in_default
returns-in_default c =
    let seen = first_lowest c.repeated-repeated.ensures in
    elim c.in_default.branch [
      | in_default-via-in-Some+else-row-repeated w ↦ node_repeated _ c.requires.0 c.requires.1 w.in-Some.ensures.1 seen (omega arith) (omega arith)
      | in_default-via-in_default w ↦ node_repeated _ c.requires.0 c.requires.1 w.in_default.ensures seen seen.within (omega arith)
    ]

pub returns-in_default-2 : goal.returns-in_default-2
returns-in_default-2 c =
    let seen = first_lowest c.repeated-repeated.ensures in
    elim c.in_default.branch [
      | in_default-via-in-Some+else-row-repeated w ↦ nodes_sound _ c.requires.0 c.requires.1 w.in-Some.ensures.1 seen (omega arith) (omega arith)
      | in_default-via-in_default w ↦ nodes_sound _ c.requires.0 c.requires.1 w.in_default.ensures seen seen.within (omega arith)
    ]
