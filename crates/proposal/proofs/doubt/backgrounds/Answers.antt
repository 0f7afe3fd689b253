use native.Mathlib.Omega.{arith}
use Rattle.meaning.specs.declared.Refusal.TheVariants.{BackgroundInDoubt}
use Rattle.numbers.specs.Numbers.{decided_by}
use Rattle.numbers.proofs.Found.{row_below, row_beyond, row_stops, row_passes}
use Rattle.proposal.proofs.doubt.backgrounds.Goals as goal

pub returns-then-row-lt512 : goal.returns-then-row-lt512
returns-then-row-lt512 c =
    let test = let a = c.args in decided_by a.lengths.now a.headings.now in
    row_stops test 512 _ BackgroundInDoubt (row_below test 512 512 _ (omega arith) c.first_doubtful-row.ensures (omega arith))

pub returns : goal.returns
returns c =
    let test = let a = c.args in decided_by a.lengths.now a.headings.now in
    row_passes test 512 BackgroundInDoubt (row_beyond test 512 512 _ (omega arith) c.first_doubtful-row.ensures (omega arith))
