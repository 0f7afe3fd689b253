use mathlib.Core.Path.{refl, sym, ◌∙◌, ap}
use native.Mathlib.Omega.{arith}
use borrow.Author.Tests.{ne_eqb}
use Rattle.meaning.specs.Editions.{edition_of}
use Rattle.meaning.specs.File.{edition_at}
use Rattle.layout.proofs.trailer.edition.Goals as goal

pub returns-in-2 : goal.returns-in-2
unfolding edition_at edition_of
returns-in-2 c = ap edition_of (sym c.in-2.is ∙ c.u32_at.ensures.value)

pub returns-in_default : goal.returns-in_default
unfolding edition_at edition_of
returns-in_default c = rw (sym c.u32_at.ensures.value, ne_eqb c.u32_at.result 2 (λ e. omega arith)) refl
