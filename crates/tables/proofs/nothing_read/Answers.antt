-- `nothing_read` meets its contract.
use Rattle.std.proofs.Common.{refl}
use Rattle.tables.specs.Opens.{nothing_read}
use Rattle.tables.proofs.nothing_read.Goals as goal

pub returns : goal.returns
unfolding nothing_read
returns c = rw (c.counts.ensures, c.settings.ensures, c.columns.ensures) refl
