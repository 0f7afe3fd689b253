-- 11: a direction that is in doubt, and a circuit whose own is not.
use mathlib.Core.Path.{◌≡◌, refl}
use mathlib.Core.Logic.{◌≢◌}
use mathlib.Core.Bool.{false, not}
use Prim.Native.Nat.{ℕ, ◌≤◌}
use borrow.Author.Tests.{le-leb}
use Rattle.meaning.specs.declared.Direction.{Direction}
use Rattle.meaning.specs.declared.Direction.TheVariants.{Idle, Forward, Backward, InDoubt}
use Rattle.meaning.specs.Direction.{direction, in_doubt}
use Rattle.numbers.specs.declared.Heading.{Heading}
use Rattle.numbers.specs.Numbers.{clear_in}

pub not_in_doubt : (d : Direction) → d ≢ InDoubt → false ≡ in_doubt d
unfolding in_doubt
not_in_doubt Idle n = refl
not_in_doubt Forward n = refl
not_in_doubt Backward n = refl
not_in_doubt InDoubt n = absurd (n refl)

pub clear_long : (length : ℕ) (h : Heading) → 1 ≤ length → not (in_doubt (direction h.flow)) ≡ clear_in length h
unfolding clear_in
clear_long length h long = rw (le-leb 1 length long) refl
