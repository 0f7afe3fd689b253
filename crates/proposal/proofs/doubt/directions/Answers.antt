use Prim.Native.Nat.{ℕ, ◌-◌}
use native.Mathlib.Omega.{arith}
use lib.ListN.{get_or}
use Rattle.meaning.specs.declared.Refusal.{Refusal}
use Rattle.meaning.specs.declared.Refusal.TheVariants.{DirectionInDoubt}
use Rattle.meaning.specs.Direction.{background}
use Rattle.numbers.specs.Numbers.{no_heading, clear_by}
use Rattle.numbers.proofs.Found.{row_below, row_beyond, row_passes}
use Rattle.proposal.proofs.Told.{row_told}
use Rattle.proposal.proofs.doubt.directions.Goals as goal

pub returns-then-row-lt512 : goal.returns-then-row-lt512
returns-then-row-lt512 c =
    let test = let a = c.args in clear_by a.lengths.now a.headings.now in
    row_told test 512 _ c.args.headings.now _ c.background_of-background.ensures (row_below test 512 512 _ (omega arith) c.first_in_doubt-row.ensures (omega arith))

pub returns : goal.returns
returns c =
    let headings = c.args.headings.now in
    let test = clear_by c.args.lengths.now headings in
    let cause : ℕ → Refusal = λ row. DirectionInDoubt (background (get_or headings (row - 1) no_heading).counting) row in
    row_passes test 512 cause (row_beyond test 512 512 _ (omega arith) c.first_in_doubt-row.ensures (omega arith))
