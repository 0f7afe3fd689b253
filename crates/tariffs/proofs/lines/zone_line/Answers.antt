use Rattle.tariffs.specs.Sides.{line_from}
use Rattle.tariffs.proofs.lines.zone_line.Goals as goal

pub returns : goal.returns
unfolding line_from
returns c = rw c.total_of.ensures
