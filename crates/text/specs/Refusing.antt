-- The line of a refusal in a lent buffer: written where the buffer has 96 bytes, which hold any such line, and else nothing is.
use Rattle.std.specs.Prelude.{◌≡◌, List, ℕ, ◌≤◌, ◌<◌, length}
use Rattle.meaning.specs.declared.Refusal.{Refusal}
use Rattle.meaning.specs.Outcome.{refused_line}
use Rattle.text.specs.Writing.{Written}

pub record Refuses (cause : Refusal) (before after : List ℕ) (r : ℕ) : Type 0 where
  pub long : 96 ≤ length before → Written (refused_line cause) before after r
  pub short : length before < 96 → (after ≡ before) × (r ≡ 0)
