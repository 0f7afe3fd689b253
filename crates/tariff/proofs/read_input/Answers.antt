-- The front of the buffer grows by what was read behind it.
use Rattle.std.proofs.Common.{◌≡◌, ℕ, ◌+◌, ◌-◌, ◌≤◌, List, ◌++◌, rules, length, take, sym, ap, ap₂, ◌∙◌, subst, le_refl, drop_at, length-take-le}
use Rattle.std.proofs.lemmas.List.{take-append-le}
use Rattle.std.proofs.lemmas.Slice.{take-put_mid_below}
use Rattle.std.specs.Io.KnownBytes.{Consumes}
use Rattle.std.proofs.KnownBytes.{Consumes-trans}
use borrow.Rule.Slice.PartMut.{put_mid, post_of}
use lib.Seq.{take-add}
use Rattle.tariff.proofs.read_input.Goals as goal

joined : (from n : ℕ) (old part : List ℕ) → from ≤ length old → n ≤ length part → take from old ++ take n part ≡ take (from + n) (put_mid from (length old - from) old part)
joined from n old part before within =
    let room = length old - from in
    let after = post_of from room old in
    let front = take-put_mid_below from room old part from (le_refl from) before in
    let behind = ap (take n) (drop_at (take from old) (part ++ after) from (length-take-le from old before)) ∙ take-append-le n part after within in
    sym (take-add from n (put_mid from room old part) ∙ ap₂ (λ xs ys. xs ++ ys) front behind)

pub loop-count-preserved : goal.loop-count-preserved
loop-count-preserved g c =
    let front = joined c.loop-count.count c.in-Ok.more c.loop-count.buffer c.read.new.buf c.loop-count.invariant.0 c.in-Ok.ensures.bound.0 in
    (search rules, subst (Consumes _ _) front (Consumes-trans _ _ _ _ _ c.loop-count.invariant.1 c.in-Ok.ensures.bytes.0))
