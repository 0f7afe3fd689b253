-- `output::runs::run_of` meets its contract: no solution is longer than its array.
use Prim.Native.Nat.{◌+◌, ◌-◌, ◌≤◌}
use mathlib.Core.Path.{◌≡◌, ◌∙◌, ap}
use native.Mathlib.Omega.{arith}
use lib.IntN.{pos}
use Rattle.meaning.specs.File.{table, i64}
use Rattle.meaning.proofs.Columns.{column_length}
use Rattle.layout.specs.Readable.{section_in}
use Rattle.layout.proofs.Rows.{solution_few}
use Rattle.output.proofs.RunLaws.{cut_table}
use Rattle.output.proofs.runs.run_of.Goals as goal

pub returns : goal.returns
returns c =
    let few : c.section-rows.result.count ≤ 768 = let e : c.args.section ≡ 4 + (c.args.section - 4) = omega (arith, c.requires) in
    solution_few c.args.file.now (c.args.section - 4) (c.section-rows.ensures ∙ ap (section_in c.args.file.now) e) in
    let file = c.args.file.now in
    record {
      numbers = cut_table file c.section-rows.result few c.run_at.ensures ∙ ap (table (i64 file)) c.section-rows.ensures;
      room = rw c.run_at.ensures (column_length (pos 0) 768 _ _);
      inside = few;
    }
