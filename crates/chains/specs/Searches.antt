-- What a search answers, as code has it.
use Rattle.std.specs.Prelude.{Some, None}
use Rattle.std.specs.declared.option.Option.{Option as Answer}
use Rattle.std.proofs.Math.Option.{Option, none, some}

-- a row that was found, or none
unfoldable pub answered : {A : Type 0} → Option A → Answer A
answered none = None
answered (some a) = Some a
