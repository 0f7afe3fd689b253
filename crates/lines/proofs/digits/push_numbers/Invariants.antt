-- The numbers before z are written.
use Prim.Native.Nat.{◌*◌}
use lib.ListN.{take}
use Rattle.lines.specs.Making.{Put, spaced}
use Rattle.lines.proofs.digits.push_numbers.Given as goal

abbrev pub invariant-loop-z : goal.invariant-loop-z
invariant-loop-z l = Put (21 * l.z-index) l.initial.line.bytes l.initial.line.len (spaced (take l.z-index l.numbers)) l.line.bytes l.line.len
