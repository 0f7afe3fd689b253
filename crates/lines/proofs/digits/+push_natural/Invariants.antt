-- It ends since the number falls.
use Rattle.lines.proofs.digits.+push_natural.Given as goal

abbrev pub decreases-push_natural : goal.decreases-push_natural
decreases-push_natural l = l.n
