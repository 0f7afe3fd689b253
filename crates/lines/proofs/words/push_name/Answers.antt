use Rattle.lines.proofs.Names.{name_added}
use Rattle.lines.proofs.words.push_name.Goals as goal

pub returns : goal.returns
returns c =
    name_added c.args.name.now _ _ c.min.ensures (rw c.first_space.ensures at c.unwrap_or-end.ensures) c.push_word.ensures
