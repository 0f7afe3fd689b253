-- Room for the text of any figures, whether or not a case has them.
use Rattle.std.specs.Prelude.{ℕ, ◌+◌, ◌*◌}
use Rattle.lines.specs.Making.{width}

abbrev pub zones_room : ℕ
zones_room = 32 * width

abbrev pub nodes_room : ℕ
nodes_room = 256 * 57

-- the lines of C and of the remainders, of two sides and of the nodes
abbrev pub room : ℕ
room = 44 + zones_room + zones_room + nodes_room + 44
