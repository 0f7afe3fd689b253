use native.Mathlib.Omega.{arith}
use Rattle.layout.proofs.FileLaws.{size_low, chained_none, chained_on, chained_is}
use Rattle.layout.proofs.trailer.chained.Goals as goal

pub loop-section-init : goal.loop-section-init
loop-section-init c = chained_none

pub overflow_mul-start : goal.overflow_mul-start
overflow_mul-start c = omega (arith, size_low _ c.loop-section.section c.record_size.ensures c.count.ensures.1)

pub overflow_add-start : goal.overflow_add-start
overflow_add-start c =
    omega (arith, c.loop-section.invariant.low, size_low _ c.loop-section.section c.record_size.ensures c.count.ensures.1)

pub loop-section-preserved : goal.loop-section-preserved
loop-section-preserved c =
    chained_on c.loop-section.invariant (omega (arith, c.sections-section-end.ensures.0)) c.offset.ensures.0 (rw c.version-version.ensures at c.record_size.ensures) c.count.ensures.0 c.count.ensures.1

pub returns : goal.returns
returns c = chained_is c.loop-section.invariant (omega (arith, c.sections-section-end.ensures.0)) c.trailer_size.ensures.0
