-- `output::of_input` meets its contract.
use mathlib.Core.Path.{sym, ◌∙◌, subst}
use mathlib.Core.List.{List}
use Prim.Native.Nat.{ℕ}
use Rattle.meaning.specs.Calls.{Prints}
use Rattle.output.proofs.Printing.{not_whole}
use Rattle.output.proofs.of_input.Goals as goal

pub of_whole_file-requires : goal.of_whole_file-requires
of_whole_file-requires c = sym c.whole.ensures ∙ c.if-whole.true

pub returns : goal.returns
returns c =
    subst (λ (t : List ℕ). Prints t c.refused.result) (not_whole c.args.input.now c.args.share.now (sym c.whole.ensures ∙ c.if-whole.false))
    c.refused.ensures
