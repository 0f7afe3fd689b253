use mathlib.Core.Path.{◌≡◌}
use mathlib.Core.Bool.{true, false}
use Prim.Native.Nat.{ℕ}
use Rattle.std.proofs.Common.{rules}
use Rattle.std.proofs.lemmas.Iterator.{first_from_Range}
use Rattle.node_table.specs.Told.{unsound_node}
use Rattle.meaning.proofs.First.{first_found}
use Rattle.node_table.proofs.row.first_unsound.Goals as goal

pub returns : goal.returns
returns c =
    let a = c.args in
    let unsound = unsound_node a.settings a.file.now a.rows in
    first_found unsound a.rows.count _ (first_from_Range _ _ _ _ (λ (i : ℕ). unsound i ≡ true) (λ (i : ℕ). unsound i ≡ false) c.find.ensures.ran (λ x q k. search rules) (λ x q k. search rules))
