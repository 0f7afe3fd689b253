-- Each call adds the next part of the text.
use Rattle.meaning.specs.Text.{ends, line}
use Rattle.meaning.specs.Outcome.{refused_fields}
use Rattle.lines.proofs.Making.{both}
use Rattle.lines.proofs.refused_line.Goals as goal

pub returns : goal.returns
unfolding refused_fields line ends
returns c =
    both c.line_of-line.ensures (both c.push_count.ensures (both c.push_count-2.ensures (both c.push_count-3.ensures c.push.ensures)))
